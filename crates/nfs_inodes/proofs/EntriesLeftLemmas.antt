-- The entries that are left behind a cookie, as pages tell of them one by one.
use Rattle.std.proofs.Common.{◌≡◌, ℕ, suc, ◌/◌, ◌≤◌, ◌==◌, Bool, true, false, cond, filter, length, List, [], ◌∷◌, ◌++◌}
use Rattle.std.proofs.Common.{Option, Some, None, option_map, append-nil, append_assoc, arith, ltb, refl, sym, ◌∙◌}
use Rattle.std.proofs.Common.{ap, subst}
use Rattle.std.specs.FinMap.{get}
use Rattle.std.specs.List.{AllByRecursion}
use Rattle.std.specs.Prelude.{IsSome, nat_lt}
use Rattle.std.proofs.lemmas.Bool.{true≢false}
use Rattle.std.proofs.lemmas.List.Elements.{filter-append}
use Rattle.nfs_wire.specs.declared.attributes.FileType.TheVariants as types
use Rattle.nfs_machine.proofs.MapChangeLemmas.{cookies-filter}
use Rattle.nfs_machine.specs.Attributes.{entries_of, is_directory}
use Rattle.nfs_machine.specs.Pages.{all_entries, behind}
use Rattle.nfs_machine.specs.State.{BlockDevice, CharacterDevice, Content, Directory, Entry, Fifo, Link, Living}
use Rattle.nfs_machine.specs.State.{Regular}
use Rattle.nfs_machine.specs.State.{Socket, State}
use Rattle.nfs_machine.specs.WellFormed.{CookiesRise, Leads, WellFormed}
use Rattle.nfs_objects.proofs.StandsInExportLemmas.{object-stands}
use Rattle.nfs_objects.proofs.SeenLemmas.{all-map, known-stands}
use Rattle.nfs_objects.specs.Directories.{has_some, in_page}
use Rattle.nfs_objects.specs.Fits.{Fits}
use Rattle.nfs_objects.specs.Knows.{Knows, Possible}
use Rattle.nfs_objects.specs.PageRuns.{IsNextPage, lists}
use Rattle.nfs_objects.specs.Sound.{Sound}
use Rattle.nfs_objects.specs.Stands.{HasEntries, StoreMeaning, Represents, entries_at, entry_map_in, page_of}
use Rattle.nfs_objects.specs.Stands.{stored_page}
use Rattle.nfs_objects.specs.Stands.{content_of, parent_in}
use Rattle.nfs_objects.specs.Store.{Store, with_writes}
use Rattle.nfs_objects.specs.Values.{DraftValue, known_at}
use Rattle.nfs_objects.specs.declared.address.Addr.TheVariants as addresses
use Rattle.nfs_objects.specs.declared.directory.Directory.{Directory as Header}
use Rattle.nfs_objects.specs.declared.entry_map.EntryMap.{EntryMap}
use Rattle.nfs_objects.specs.declared.object.Content.{Content as Stored}
use Rattle.nfs_objects.specs.declared.object.Content.TheVariants as contents
use Rattle.nfs_objects.specs.declared.object.Inode.{Inode}
use Rattle.nfs_objects.specs.declared.object.Object.{Object}
use Rattle.nfs_objects.specs.declared.object.Object.TheVariants as objects
use Rattle.nfs_inodes.proofs.PageFrontLemmas.{back, front, front-all, front-back, front-first, front-more, next-behind}
use Rattle.nfs_inodes.proofs.PageFrontLemmas.{none-between}
use Rattle.nfs_inodes.proofs.NameLeadsLemmas.{entries-own, map_there}
use Rattle.nfs_inodes.proofs.StandsLemmas.{contains-as, content_in, directory-kind, entries-there, kind-is}
use Rattle.nfs_inodes.proofs.StandsLemmas.{parent-there}
use Rattle.nfs_inodes.specs.Entered.{ShowsPage}
use Rattle.nfs_inodes.specs.Gathers.{EachLives}
use Rattle.nfs_inodes.specs.Known.{HasInode, IsKnown, content_at, object_at}
use Rattle.nfs_inodes.specs.Listing.{IsFrontOf, dots_behind}
use Rattle.nfs_inodes.specs.declared.found.Known.{Known}

-- ---- lists
-- `.` and `..` come first
all-left : (number parent cookie : ℕ) (es : List Entry) →
    behind cookie (all_entries number parent es) ≡ dots_behind number parent cookie ++ behind cookie es
all-left number parent cookie es =
    filter-append (λ (e : Entry). nat_lt cookie e.cookie) (all_entries number parent []) es

behind-both : (cookie : ℕ) (xs ys : List Entry) → behind cookie (xs ++ ys) ≡ behind cookie xs ++ behind cookie ys
behind-both cookie xs ys = filter-append (λ (e : Entry). nat_lt cookie e.cookie) xs ys

-- ---- a page that is listed
-- it is there
page-is : (es : List Entry) (o : Option Object) → o ≡ stored_page es → has_some es ≡ true → page_of o ≡ Some es
page-is es o is some =
    ap page_of is ∙ ap (λ b. page_of (cond b (Some (objects.Page es)) None)) some

page-shown : (d : DraftValue) (s : Store) (n : ℕ) (m : EntryMap) (es : List Entry) (page : ℕ)
    (found : Option (List Entry)) → Fits d.view s → HasEntries (with_writes s d.writes) n m es →
    lists m.pages page ≡ true → ShowsPage d n page found → found ≡ Some (in_page page es)
page-shown d s n m es page found fits has listed shows = by (known_at d (addresses.Page n page)) refl
  where
    by : (o : Option (Option Object)) → known_at d (addresses.Page n page) ≡ o → found ≡ Some (in_page page es)
    by None unknown = (let e : None ≡ Some found = sym (ap (option_map page_of) unknown) ∙ shows in cc)
    by (Some o) known =
        let own : Some (page_of o) ≡ Some found = sym (ap (option_map page_of) known) ∙ shows in
        let same : found ≡ page_of o = cc in
        let at : o ≡ stored_page (in_page page es) =
        sym (known-stands d s (addresses.Page n page) o fits known) ∙ has.pages page in
        same ∙ page-is (in_page page es) o at (sym (has.listed page) ∙ listed)

-- ---- in every state
-- the names of whatever lives have cookies that rise
rising-in : (m : State) → WellFormed m → (n : ℕ) (o : Living) → get m.objects n ≡ Some o →
    (last : ℕ) × CookiesRise 2 (entries_of o.content) last
rising-in m formed n o lives = by o.content refl
  where
    by : (c : Content) → o.content ≡ c → (last : ℕ) × CookiesRise 2 (entries_of c) last
    by (Directory es last) is = (last, formed.cookies n o es last lives is)
    by (Regular bytes) is = (2, omega arith)
    by (Link text) is = (2, omega arith)
    by (BlockDevice device) is = (2, omega arith)
    by (CharacterDevice device) is = (2, omega arith)
    by Socket is = (2, omega arith)
    by Fifo is = (2, omega arith)

-- these are the first that are left in the directory at a number
abbrev pub IsFront : DraftValue → (number cookie : ℕ) → List Entry → (is_all : Bool) → (enough : ℕ) → Type 0
IsFront d n cookie entries is_all enough = Knows d (λ k. WellFormed k.state → IsFrontOf entries is_all enough
    (behind cookie (all_entries n (k.parents n) (entries_of (content_at k.state n)))))

-- these are the two names, and then the entries that lie before the next page, as far as they are behind the cookie
abbrev pub IsGathered : DraftValue → (number parent cookie : ℕ) → (next : Option ℕ) → List Entry → Type 0
IsGathered d n parent cookie next left = Knows d (λ k. WellFormed k.state →
    left ≡ dots_behind n parent cookie ++ behind cookie (front next (entries_at k.state n)))

-- ---- what is no directory
kind-there : (i : Option Inode) → map_there i ≡ None → is_directory (content_in i) ≡ false
kind-there None none = refl
kind-there (Some i) none = by i.content none
  where
    by : (c : Stored) → entry_map_in c ≡ None → is_directory (content_of c) ≡ false
    by (contents.Regular map) is = refl
    by (contents.Directory header) is = cc
    by (contents.Link text) is = refl
    by (contents.BlockDevice device) is = refl
    by (contents.CharacterDevice device) is = refl
    by contents.Socket is = refl
    by contents.Fifo is = refl

module _ (d : DraftValue) (x : Known) (known : Knows d (λ k. IsKnown k.state x)) (cookie : ℕ) where
  -- where a directory lives, none but one stands
  pub no-front : (i : Option Inode) (left : List Entry) (is_all : Bool) (enough : ℕ) → HasInode d x.number i →
      map_there i ≡ None → x.attributes.kind ≡ types.Directory → IsFront d x.number cookie left is_all enough
  no-front i left is_all enough has none kind s k w formed =
      let is : is_directory (content_at k.state x.number) ≡ true =
      directory-kind (content_at k.state x.number) (kind-is k.state x (known s k w) ∙ kind) in
      let same : is_directory (content_at k.state x.number) ≡ is_directory (content_in i) =
      contains-as d x.number i has s k w.fits w.stands is_directory (λ b more. refl) (λ e more last. refl) in
      absurd (true≢false (sym is ∙ same ∙ kind-there i none))

  -- ---- page by page
  module _ (i : Inode) (h : Header) (has : HasInode d x.number (Some i)) (is : i.content ≡ contents.Directory h) where
    there : (s : Store) (k : StoreMeaning) → Possible d s k →
        HasEntries (with_writes s d.writes) x.number h.entries (entries_at k.state x.number)
    there s k w = entries-there d x.number i h.entries has (ap entry_map_in is) s k w.fits w.stands

    rise : (s : Store) (k : StoreMeaning) → Possible d s k → WellFormed k.state →
        (last : ℕ) × CookiesRise 2 (entries_at k.state x.number) last
    rise s k w formed =
        subst (λ es. (last : ℕ) × CookiesRise 2 es last) (entries-own k.state x.number)
        (rising-in k.state formed x.number (object_at k.state x) (known s k w).lives)

    pub gathered-first : (next : Option ℕ) (left : List Entry) → IsNextPage h.entries.pages (cookie / 64) next →
        left ≡ dots_behind x.number h.parent cookie → IsGathered d x.number h.parent cookie next left
    gathered-first next left first dots s k w formed =
        let es = entries_at k.state x.number in
        let none : behind cookie (front next es) ≡ [] =
        front-first cookie next es (none-between h.entries.pages (cookie / 64) next es first (there s k w).listed) in
        dots
        ∙ sym (ap (λ l. dots_behind x.number h.parent cookie ++ l) none
        ∙ append-nil (dots_behind x.number h.parent cookie))

    module _ (page : ℕ) (next : Option ℕ) (left : List Entry) (listed : lists h.entries.pages page ≡ true) where
      -- a page that is listed is there
      pub gathered-none : ShowsPage d x.number page None → IsGathered d x.number h.parent cookie next left
      gathered-none shows s k w formed = absurd (
          let found : None ≡ Some (in_page page (entries_at k.state x.number)) =
          page-shown d s x.number h.entries (entries_at k.state x.number) page None w.fits (there s k w) listed shows in
          cc)

      pub gathered-more : (entries new : List Entry) → IsNextPage h.entries.pages (suc page) next →
          ShowsPage d x.number page (Some entries) →
          ((below last : ℕ) → CookiesRise below entries last → new ≡ left ++ behind cookie entries) →
          IsGathered d x.number h.parent cookie (Some page) left → IsGathered d x.number h.parent cookie next new
      gathered-more entries new follows shows added before s k w formed =
          let es = entries_at k.state x.number in
          let dots = dots_behind x.number h.parent cookie in
          let found : Some entries ≡ Some (in_page page es) =
          page-shown d s x.number h.entries es page (Some entries) w.fits (there s k w) listed shows in
          let own : entries ≡ in_page page es = cc in
          let up = rise s k w formed in
          let more : front next es ≡ front (Some page) es ++ in_page page es =
          front-more 2 up.0 page next es up.1 (next-behind h.entries.pages page next follows)
          (none-between h.entries.pages (suc page) next es follows (there s k w).listed) in
          added 2 up.0 (subst (λ l. CookiesRise 2 l up.0) (sym own)
          (cookies-filter (λ (e : Entry). e.cookie / 64 == page) 2 up.0 es up.1))
          ∙ ap (λ l. left ++ behind cookie l) own
          ∙ ap (λ l. l ++ behind cookie (in_page page es)) (before s k w formed)
          ∙ append_assoc dots (behind cookie (front (Some page) es)) (behind cookie (in_page page es))
          ∙ ap (λ l. dots ++ l) (sym (behind-both cookie (front (Some page) es) (in_page page es))
          ∙ ap (behind cookie) (sym more))

    -- ---- what is left
    left-is : (s : Store) (k : StoreMeaning) → Possible d s k →
        behind cookie (all_entries x.number (k.parents x.number) (entries_of (content_at k.state x.number)))
        ≡ dots_behind x.number h.parent cookie ++ behind cookie (entries_at k.state x.number)
    left-is s k w =
        let es = entries_of (content_at k.state x.number) in
        all-left x.number (k.parents x.number) cookie es
        ∙ ap (λ p. dots_behind x.number p cookie ++ behind cookie es)
        (parent-there d x.number (Some i) has s k w.fits w.stands ∙ ap parent_in is)
        ∙ ap (λ l. dots_behind x.number h.parent cookie ++ behind cookie l) (entries-own k.state x.number)

    pub front-whole : (left : List Entry) (enough : ℕ) → IsGathered d x.number h.parent cookie None left →
        IsFront d x.number cookie left true enough
    front-whole left enough gathered s k w formed = record {
      rest = [];
      whole = left-is s k w
          ∙ ap (λ l. dots_behind x.number h.parent cookie ++ behind cookie l)
          (sym (front-all (entries_at k.state x.number)))
          ∙ sym (gathered s k w formed) ∙ sym (append-nil left);
      all = λ whole. refl;
      many = λ some. cc;
    }

    pub front-part : (next : Option ℕ) (left : List Entry) (enough : ℕ) → enough ≤ length left →
        IsGathered d x.number h.parent cookie next left → IsFront d x.number cookie left false enough
    front-part next left enough many gathered s k w formed =
        let es = entries_at k.state x.number in
        let dots = dots_behind x.number h.parent cookie in
        let up = rise s k w formed in
        record {
          rest = behind cookie (back next es);
          whole = left-is s k w
              ∙ ap (λ l. dots ++ behind cookie l) (front-back 2 up.0 next es up.1)
              ∙ ap (λ l. dots ++ l) (behind-both cookie (front next es) (back next es))
              ∙ sym (append_assoc dots (behind cookie (front next es)) (behind cookie (back next es)))
              ∙ ap (λ l. l ++ behind cookie (back next es)) (sym (gathered s k w formed));
          all = λ whole. cc;
          many = λ some. many;
        }

-- ---- what is listed lives
all-filter : {X : Type 0} (P : X → Type 0) (test : X → Bool) (xs : List X) → AllByRecursion P xs →
    AllByRecursion P (filter test xs)
all-filter P test [] all = tt
all-filter P test (x ∷ xs) all =
    elim (test x) as (λ b. AllByRecursion P (cond b (x ∷ filter test xs) (filter test xs))) [
      | true ↦ (all.0, all-filter P test xs all.1)
      | false ↦ all-filter P test xs all.1
    ]

all-front : {X : Type 0} (P : X → Type 0) (xs ys : List X) → AllByRecursion P (xs ++ ys) → AllByRecursion P xs
all-front P [] ys all = tt
all-front P (x ∷ xs) ys all = (all.0, all-front P xs ys all.1)

-- what stands in each store stands there one by one
each-apart : (d : DraftValue) (es : List Entry) →
    ((s : Store) (k : StoreMeaning) → Fits d.view s → Represents s k → Sound k → WellFormed k.state →
    AllByRecursion (λ (e : Entry). IsSome (s.at (addresses.Inode e.number))) es) → EachLives d.view es
each-apart d [] all = tt
each-apart d (e ∷ es) all = (
  λ s k fits stands sound formed. (all s k fits stands sound formed).0,
  each-apart d es (λ s k fits stands sound formed. (all s k fits stands sound formed).1),
)

pub front-lives : (d : DraftValue) (x : Known) (known : Knows d (λ k. IsKnown k.state x)) (cookie : ℕ)
    (left : List Entry) (is_all : Bool) (enough : ℕ) → d.writes ≡ [] → x.attributes.kind ≡ types.Directory →
    IsFront d x.number cookie left is_all enough → EachLives d.view left
front-lives d x known cookie left is_all enough none kind is = each-apart d left (λ s k fits stands sound formed.
    let written = subst (λ ws. Represents (with_writes s ws) k) (sym none) stands in
    let w : Possible d s k = record { fits = fits; stands = written; sound = sound } in
    let o = object_at k.state x in
    let lives = (known s k w).lives in
    let directory : is_directory (content_at k.state x.number) ≡ true =
    directory-kind (content_at k.state x.number) (kind-is k.state x (known s k w) ∙ kind) in
    let parent = sound.parents x.number o lives directory in
    let names = all-map (Leads k.state o) (λ (e : Entry). IsSome (s.at (addresses.Inode e.number)))
    (λ e leads. object-stands s k e.number leads.object stands leads.lives)
    (entries_of (content_at k.state x.number)) (formed.names x.number o lives).leads in
    let front = is s k w formed in
    all-front (λ (e : Entry). IsSome (s.at (addresses.Inode e.number))) left front.rest
    (subst (λ es. AllByRecursion (λ (e : Entry). IsSome (s.at (addresses.Inode e.number))) es) front.whole
    (all-filter (λ (e : Entry). IsSome (s.at (addresses.Inode e.number))) (λ e. ltb cookie e.cookie)
    (all_entries x.number (k.parents x.number) (entries_of (content_at k.state x.number))) (
      object-stands s k x.number o stands lives,
      (object-stands s k (k.parents x.number) parent.directory stands parent.lives, names),
    ))))
