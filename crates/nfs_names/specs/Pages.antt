-- Pages of a directory (RFC 1813, 3.3.16 and 3.3.17).
use Rattle.std.specs.Prelude.{◌≡◌, ℕ, ◌+◌, ◌&&◌, ◌||◌, Bool, List, map, min, Result, Ok, Err}
use Rattle.std.specs.Prelude.{◌==◌, nat_le}
use Rattle.std.specs.Prelude.{[], ◌∷◌, false}
use Rattle.std.specs.List.{sum_by}
use Rattle.nfs_wire.specs.declared.calls.ReaddirArguments.{ReaddirArguments}
use Rattle.nfs_wire.specs.declared.calls.ReaddirplusArguments.{ReaddirplusArguments}
use Rattle.nfs_wire.specs.declared.replies.Page.{Page}
use Rattle.nfs_wire.specs.declared.replies.PagePlus.{PagePlus}
use Rattle.nfs_wire.specs.declared.status.NfsStatus.{NfsStatus}
use Rattle.nfs_wire.specs.declared.status.NfsStatus.TheVariants as status
use Rattle.nfs_machine.specs.Bytes.{same_bytes}
use Rattle.nfs_machine.specs.Checks.{◌>>=◌, holding, entries_in, permitted}
use Rattle.nfs_machine.specs.Data.{transfer_limit}
use Rattle.nfs_machine.specs.DataSteps.{verifier_of}
use Rattle.nfs_machine.specs.PageSteps.{full_entry, page_entry}
use Rattle.nfs_machine.specs.Pages.{DirectoryPage, Pages, all_entries, behind, entry_size, fits, fits_full}
use Rattle.nfs_machine.specs.Pages.{full_entry_size}
use Rattle.nfs_machine.specs.Permission.{ToList}
use Rattle.nfs_machine.specs.State.{Entry, State}
use Rattle.nfs_machine.specs.WellFormed.{WellFormed}
use Rattle.nfs_machine.specs.declared.context.Ctx.{Ctx}
use Rattle.nfs_objects.specs.Knows.{Knows}
use Rattle.nfs_objects.specs.Stands.{StoreMeaning}
use Rattle.nfs_objects.specs.Values.{DraftValue}
use Rattle.nfs_inodes.specs.Known.{object_at}
use Rattle.nfs_inodes.specs.Listing.{listed_entry}
use Rattle.nfs_inodes.specs.declared.found.Known.{Known}
use Rattle.nfs_names.specs.Checking.{ChecksOf}
use Rattle.nfs_names.specs.declared.page.Budget.{Budget}
use Rattle.nfs_names.specs.declared.page.Budget.TheVariants as budgets
use Rattle.nfs_names.specs.declared.page.Front.{Front}
use Rattle.nfs_names.specs.declared.page.PageAsked.{PageAsked}
use Rattle.nfs_names.specs.declared.page.Sizes.{Sizes}

-- ---- what fits
-- whether so many entries fit that the caller takes
abbrev pub fit_of : Budget → List Entry → Bool
fit_of (budgets.Names count) = fits count
fit_of (budgets.Full directory_count most) = fits_full directory_count most

-- the bytes of an entry in the result
abbrev pub result_size : Budget → Entry → ℕ
result_size (budgets.Names count) = entry_size
result_size (budgets.Full directory_count most) = full_entry_size

-- the bytes of a result with these entries, and those of their numbers, names and cookies
abbrev pub sizes_of : Budget → List Entry → Sizes
sizes_of budget front = record { whole = 104 + sum_by (result_size budget) front; names = sum_by entry_size front }

-- the same test of the bytes
abbrev pub sizes_fit : Budget → Sizes → Bool
sizes_fit (budgets.Names count) s = nat_le s.whole (min count transfer_limit)
sizes_fit (budgets.Full directory_count most) s = nat_le s.whole (min most transfer_limit) &&
    nat_le s.names directory_count

-- ---- the page
-- the entries of a page, and whether they are all
abbrev pub front_page : Front → DirectoryPage
front_page front = record { entries = map listed_entry front.entries.items; eof = front.eof }

-- the page of these entries where the next one does not fit
abbrev pub page_cut : List Entry → Result DirectoryPage NfsStatus
page_cut [] = Err status.TooSmall
page_cut (e ∷ entries) = Ok (record { entries = e ∷ entries; eof = false })

abbrev pub page_found : Result Front NfsStatus → Result DirectoryPage NfsStatus
page_found found = found >>= λ front. Ok (front_page front)

-- the checks of a directory that is listed, and then the rest: the cookies of this server are good while it runs, each
-- but 0 with the verifier that it gives
abbrev pub list_checked : Ctx → PageAsked → ChecksOf (List Entry)
list_checked ctx asked o rest = do
  entries ← entries_in o.content
  _ ← permitted ctx o ToList
  _ ← holding ((asked.cookie == 0) || same_bytes asked.verifier.bytes (verifier_of ctx).bytes) status.BadCookie
  rest entries

-- the entries that are left in a directory
abbrev pub left_in : StoreMeaning → Ctx → Known → PageAsked → Result (List Entry) NfsStatus
left_in k ctx x asked = list_checked ctx asked (object_at k.state x)
    (λ entries. Ok (behind asked.cookie (all_entries x.number (k.parents x.number) entries.list)))

-- the page of the entries that are left, as many as fit
abbrev pub IsPageOf : Budget → Result (List Entry) NfsStatus → Result DirectoryPage NfsStatus → Type 0
IsPageOf budget left page = elim left as (λ r. Type 0) [
  | Ok entries ↦ Pages (fit_of budget) entries page
  | Err e ↦ page ≡ Err e
]

-- in every well-formed state it is the page that is asked for
abbrev pub KnowsPage : DraftValue → Known → PageAsked → Result DirectoryPage NfsStatus → Type 0
KnowsPage d x asked page = Knows d (λ k. WellFormed k.state →
    IsPageOf asked.budget (left_in k d.ctx x asked) page)

-- ---- what it shows
-- the page of READDIR (3.3.16)
abbrev pub names_page : Ctx → DirectoryPage → Page
names_page ctx page = record
    { verifier = verifier_of ctx; entries = map page_entry page.entries; eof = page.eof }

-- the page of READDIRPLUS (3.3.17)
abbrev pub full_page : State → Ctx → DirectoryPage → PagePlus
full_page m ctx page = record
    { verifier = verifier_of ctx; entries = map (full_entry m ctx) page.entries; eof = page.eof }

-- what is listed is the page, shown so
pub record Lists {A : Type 0} (d : DraftValue) (x : Known) (asked : PageAsked)
    (show : State → DirectoryPage → A) (result : Result A NfsStatus) : Type 0 where
  pub page : Result DirectoryPage NfsStatus
  pub is_page : KnowsPage d x asked page
  pub shows : Knows d (λ k. (page >>= λ p. Ok (show k.state p)) ≡ result)

-- ---- what is asked for
abbrev pub names_asked : ReaddirArguments → PageAsked
names_asked a = record { cookie = a.cookie; verifier = a.verifier; budget = budgets.Names a.count }

abbrev pub full_asked : ReaddirplusArguments → PageAsked
full_asked a = record
    { cookie = a.cookie; verifier = a.verifier; budget = budgets.Full a.directory_count a.most }
