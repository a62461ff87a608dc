-- Pages of a directory as visits: what the directory had, and what a page showed of it.
use Rattle.std.proofs.Common.{◌≡◌, ◌==◌, ℕ, Bool, true, false, List, [], ◌∷◌, ◌++◌, Ok}
use Rattle.std.specs.List.{AllByRecursion, Contains, count_by}
use Rattle.nfs_machine.specs.Pages.{DirectoryPage, Pages, all_entries, behind}
use Rattle.nfs_machine.specs.Paging.{Rises, next_cookie}
use Rattle.nfs_machine.specs.Resolve.{Names, resolve}
use Rattle.nfs_machine.specs.State.{Directory, Entry, Living, State}
use Rattle.nfs_machine.specs.WellFormed.{IsParent}
use Rattle.nfs_machine.specs.declared.context.Ctx.{Ctx}

-- a call that was answered by a page: the entries that the directory had then and what fitted; the page, and its eof
pub record Visit : Type 0 where
  pub entries : List Entry
  pub fit : List Entry → Bool
  pub page : List Entry
  pub eof : Bool

abbrev pub IsVisit : ℕ → Visit → Type 0
IsVisit cookie v = Pages v.fit (behind cookie v.entries) (Ok (record { entries = v.page; eof = v.eof }))

-- pages from a cookie on, up to the one that says that the directory ends; between them it may have changed
abbrev pub ReadsOn : ℕ → List Visit → Type 0
ReadsOn cookie [] = ⊥
ReadsOn cookie (v ∷ []) = IsVisit cookie v × (v.eof ≡ true)
ReadsOn cookie (v ∷ w ∷ visits) = IsVisit cookie v × (v.eof ≡ false) ×
    ReadsOn (next_cookie cookie v.page) (w ∷ visits)

-- all entries that the pages show
abbrev pub shown_by : List Visit → List Entry
shown_by [] = []
shown_by (v ∷ visits) = v.page ++ shown_by visits

-- at each visit the entries have rising cookies, as in every directory (WellFormed)
abbrev pub InOrder : List Visit → Type 0
InOrder visits = AllByRecursion (λ (v : Visit). Rises 0 v.entries) visits

-- the entry was there at each visit
abbrev pub IsAtEach : List Visit → Entry → Type 0
IsAtEach visits e = AllByRecursion (λ (v : Visit). Contains v.entries e) visits

-- A directory that is read from cookie 0 to its end shows no cookie twice, and each entry that stayed once.
pub record ReadsWhole (visits : List Visit) : Type 0 where
  pub rises : Rises 0 (shown_by visits)
  pub shows : (e : Entry) → IsAtEach visits e → Contains (shown_by visits) e
  pub once : (e : Entry) → IsAtEach visits e → count_by (λ (x : Entry). x.cookie == e.cookie) (shown_by visits) ≡ 1

abbrev pub PagesAreWhole : Type 0
PagesAreWhole = (visits : List Visit) → InOrder visits → ReadsOn 0 visits → ReadsWhole visits

-- the page is one of the directory that a handle names, whose entries stand in order
pub record ListsPage (m : State) (ctx : Ctx) (directory : List ℕ) (cookie : ℕ) (fit : List Entry → Bool)
    (page : DirectoryPage) : Type 0 where
  pub number : ℕ
  pub object : Living
  pub is_named : resolve m ctx directory ≡ Names number object
  pub entries : List Entry
  pub last : ℕ
  pub is_directory : object.content ≡ Directory entries last
  pub parent : ℕ
  pub is_parent : IsParent m number parent
  pub visit : IsVisit cookie
      (record { entries = all_entries number parent entries; fit = fit; page = page.entries; eof = page.eof })
  pub in_order : Rises 0 (all_entries number parent entries)
