-- What names lead to, as what stands at a directory's number tells.
use Rattle.std.proofs.Common.{◌≡◌, ◌≢◌, ◌⊎◌, ◌/◌, ◌+◌, ℕ, true, false, Bool, cond, List, [], ◌∷◌, Option, Some, None}
use Rattle.std.proofs.Common.{Result, Ok, Err}
use Rattle.std.proofs.Common.{option_map, inl, inr, refl, sym, ◌∙◌, ap, subst, arith}
use Rattle.std.proofs.lemmas.Bool.{cases_eq, eq-eqb, ne_eqb, true≢false}
use Rattle.std.specs.Prelude.{codes, ok_or, IfSome, MatchResult}
use Rattle.std.specs.FinMap.{get}
use Rattle.nfs_wire.specs.declared.attributes.FileType.TheVariants as types
use Rattle.nfs_wire.specs.declared.status.NfsStatus.TheVariants as status
use Rattle.nfs_machine.proofs.MapChangeLemmas.{find-all}
use Rattle.nfs_machine.proofs.ChecksPassedLemmas.{are_none, some-entry}
use Rattle.nfs_machine.specs.Attributes.{entries_of, is_directory}
use Rattle.nfs_machine.specs.Bytes.{same_bytes}
use Rattle.nfs_machine.specs.Checks.{entry_of}
use Rattle.nfs_machine.specs.NameSteps.{leads_to}
use Rattle.nfs_machine.specs.State.{BlockDevice, CharacterDevice, Content, Directory, Entry, Fifo, Link, Living}
use Rattle.nfs_machine.specs.State.{Regular}
use Rattle.nfs_machine.specs.State.{Socket, State}
use Rattle.nfs_machine.specs.WellFormed.{Leads}
use Rattle.nfs_objects.proofs.StandsInExportLemmas.{inode-stands, object-stands}
use Rattle.nfs_objects.specs.Asks.{IsThere}
use Rattle.nfs_objects.specs.Directories.{IsPlace, bucket_of, has_some, in_page, part_among, part_place, width_in}
use Rattle.nfs_objects.specs.Entries.{leaf_of}
use Rattle.nfs_objects.specs.Knows.{Knows, Possible}
use Rattle.nfs_objects.specs.Modes.{led_at, number_at, number_in, part_address}
use Rattle.nfs_objects.specs.PageRuns.{TellsEmpty, lists}
use Rattle.nfs_objects.specs.Stands.{HasEntries, StoreMeaning, Represents, beside_at, content_of, directory_entries}
use Rattle.nfs_objects.specs.Stands.{entries_at, entry_map_in, filled, header_in, part_of}
use Rattle.nfs_objects.specs.Store.{Store, with_writes}
use Rattle.nfs_objects.specs.Values.{DraftValue, ViewValue, known_at, shown_at, written_at}
use Rattle.nfs_objects.specs.declared.address.Addr.{Addr}
use Rattle.nfs_objects.specs.declared.address.Addr.TheVariants as addresses
use Rattle.nfs_objects.specs.declared.change.Missing.{Missing}
use Rattle.nfs_objects.specs.declared.directory.Directory.{Directory as Header}
use Rattle.nfs_objects.specs.declared.directory.Leaf.{Leaf}
use Rattle.nfs_objects.specs.declared.entry_map.EntryMap.{EntryMap}
use Rattle.nfs_objects.specs.declared.entry_map.NamePlace.{NamePlace}
use Rattle.nfs_objects.specs.declared.object.Content.{Content as Stored}
use Rattle.nfs_objects.specs.declared.object.Content.TheVariants as contents
use Rattle.nfs_objects.specs.declared.object.Inode.{Inode}
use Rattle.nfs_objects.specs.declared.object.Object.{Object}
use Rattle.nfs_objects.specs.declared.object.Object.TheVariants as objects
use Rattle.nfs_inodes.proofs.LeafLemmas.{leaf-stands}
use Rattle.nfs_inodes.proofs.PutObjectLemmas.{inode-known}
use Rattle.nfs_inodes.proofs.StandsLemmas.{contains, contains-as, content_in, directory-kind, entries-there, kind-is}
use Rattle.nfs_inodes.specs.Entered.{IsLastCookie, IsNextCookie, LeadsFrom, ShowsLeaf, TellsBare}
use Rattle.nfs_inodes.specs.Known.{HasInode, IsKnown, content_at, last_cookie_of, object_at}
use Rattle.nfs_inodes.specs.Stops.{inode_at}
use Rattle.nfs_inodes.specs.declared.found.Known.{Known}

-- the number that a name's entry leads to
abbrev pub under : Content → List ℕ → Option ℕ
under content name = option_map (λ (e : Entry). e.number) (entry_of (entries_of content) name)

-- ---- what lives in a directory, as its map tells of it
-- the entries of what lives at a number are those of its content
pub entries-own : (m : State) (n : ℕ) → entries_of (content_at m n) ≡ entries_at m n
entries-own m n = by (get m.objects n)
  where
    own : (c : Content) → entries_of c ≡ directory_entries c
    own (Directory entries last) = refl
    own (Regular bytes) = refl
    own (Link text) = refl
    own (BlockDevice device) = refl
    own (CharacterDevice device) = refl
    own Socket = refl
    own Fifo = refl

    by : (o : Option Living) → entries_of (elim o [ None ↦ Socket | Some l ↦ l.content ])
        ≡ elim o [ None ↦ [] | Some l ↦ directory_entries l.content ]
    by None = refl
    by (Some l) = own l.content

-- the map of what stands there, if it is a directory
abbrev pub map_there : Option Inode → Option EntryMap
map_there i = elim i [ None ↦ None | Some i ↦ entry_map_in i.content ]

-- what is no directory has no entry
none-there : (d : DraftValue) (n : ℕ) (i : Option Inode) → HasInode d n i → map_there i ≡ None →
    Knows d (λ k. entries_of (content_at k.state n) ≡ [])
none-there d n i has none s k w = ap entries_of (contains d n i has s k w.fits w.stands) ∙ by i none
  where
    by : (j : Option Inode) → map_there j ≡ None → entries_of (filled (beside_at k.state n) (content_in j)) ≡ []
    by None is = refl
    by (Some j) is = own j.content is
      where
        own : (c : Stored) → entry_map_in c ≡ None → entries_of (filled (beside_at k.state n) (content_of c)) ≡ []
        own (contents.Regular map) is = refl
        own (contents.Directory directory) is = cc
        own (contents.Link text) is = refl
        own (contents.BlockDevice device) is = refl
        own (contents.CharacterDevice device) is = refl
        own contents.Socket is = refl
        own contents.Fifo is = refl

-- ---- what a name leads to
abbrev number_of : Option Leaf → Option ℕ
number_of leaf = option_map (λ (l : Leaf). l.number) leaf

number-leaf : (o : Option Entry) → option_map (λ (e : Entry). e.number) o ≡ number_of (option_map leaf_of o)
number-leaf None = refl
number-leaf (Some e) = refl

pub entry-there : (d : DraftValue) (n : ℕ) (name : List ℕ) (i : Inode) (m : EntryMap) (leaf : Option Leaf) →
    HasInode d n (Some i) → entry_map_in i.content ≡ Some m → ShowsLeaf d n m name leaf
    → Knows d (λ k. under (content_at k.state n) name ≡ number_of leaf)
entry-there d n name i m leaf has is shows s k w =
    ap (λ es. option_map (λ (e : Entry). e.number) (entry_of es name)) (entries-own k.state n)
    ∙ number-leaf (entry_of (entries_at k.state n) name)
    ∙ ap number_of (leaf-stands d s n m (entries_at k.state n) w.fits
    (entries-there d n i m has is s k w.fits w.stands) name leaf shows)

pub no-entry-there : (d : DraftValue) (n : ℕ) (name : List ℕ) (i : Option Inode) → HasInode d n i → map_there i ≡ None →
    Knows d (λ k. under (content_at k.state n) name ≡ None)
no-entry-there d n name i has none s k w =
    ap (λ es. option_map (λ (e : Entry). e.number) (entry_of es name)) (none-there d n i has none s k w)

-- the view shows it where nothing was written
abbrev led_of : ViewValue → (n : ℕ) → Option (Option Object) → List ℕ → Option ℕ
led_of view n o name = elim o [ None ↦ None | Some object ↦ number_at view (part_address n object name) name ]

abbrev found_in : Option (Option Object) → List ℕ → Option ℕ
found_in o name = elim o [ None ↦ None | Some object ↦ number_in object name ]

module _ (d : DraftValue) (n : ℕ) (name : List ℕ) (i : Inode) (m : EntryMap) (none : d.writes ≡ [])
    (has : HasInode d n (Some i)) (is : entry_map_in i.content ≡ Some m) where
  shown-as : (a : Addr) → known_at d a ≡ shown_at d.view.entries a
  shown-as a = ap (λ ws. written_at (shown_at d.view.entries a) ws a) none

  directory-shown : shown_at d.view.entries (addresses.Inode n) ≡ Some (Some (objects.Inode i))
  directory-shown = sym (shown-as (addresses.Inode n)) ∙ has.known
      ∙ ap Some (inode-stands has.exports has.object i (sym has.is)).stands

  -- the part of the name, where its bucket has parts
  place-is : (p : NamePlace) → IsPlace m name (Some p) → part_place m n name ≡ Some (addresses.Part n p.bucket p.part)
  place-is p at = by (cases_eq width 0)
    where
      width : ℕ
      width = width_in m.counts (bucket_of name)

      by : (width ≡ 0) ⊎ (width ≢ 0) → part_place m n name ≡ Some (addresses.Part n p.bucket p.part)
      by (inl wide) = absurd (omega (arith, wide, at.2))
      by (inr wide) =
          ap (λ b. cond b None (Some (addresses.Part n (bucket_of name) (part_among m.key width name))))
          (ne_eqb width 0 wide)
          ∙ (λ j. Some (addresses.Part n (sym at.0 j) (sym at.1 j)))

  led-there : (l : Leaf) (p : NamePlace) (part : Option (List Entry)) → IsPlace m name (Some p)
      → option_map part_of (known_at d (addresses.Part n p.bucket p.part)) ≡ Some part
      → Some l ≡ elim part [ None ↦ None | Some es ↦ option_map leaf_of (entry_of es name) ]
      → led_at d.view n name ≡ Some l.number
  led-there l p part at known leads =
      ap (λ o. led_of d.view n o name) directory-shown
      ∙ ap (λ x. number_at d.view (elim x [ None ↦ None | Some m ↦ part_place m n name ]) name) is
      ∙ ap (λ x. number_at d.view x name) (place-is p at)
      ∙ by (shown_at d.view.entries (addresses.Part n p.bucket p.part))
      (ap (option_map part_of) (sym (shown-as (addresses.Part n p.bucket p.part))) ∙ known)
    where
      own : (es : Option (List Entry)) →
          Some l ≡ elim es [ None ↦ None | Some es ↦ option_map leaf_of (entry_of es name) ] →
          elim es [ None ↦ None | Some es ↦ option_map (λ (e : Entry). e.number) (entry_of es name) ] ≡ Some l.number
      own None e = cc
      own (Some es) e = number-leaf (entry_of es name) ∙ ap number_of (sym e)

      by : (o : Option (Option Object)) → option_map part_of o ≡ Some part → found_in o name ≡ Some l.number
      by None e = cc
      by (Some object) e =
          let same : part_of object ≡ part = cc in
          ap (λ es. elim es [ None ↦ None | Some es ↦ option_map (λ (e : Entry). e.number) (entry_of es name) ]) same
          ∙ own part leads

  pub entry-led : (leaf : Option Leaf) → ShowsLeaf d n m name leaf →
      IfSome (number_of leaf) (λ number. led_at d.view n name ≡ Some number)
  entry-led None shows = tt
  entry-led (Some l) shows = by shows.place shows.is shows.leads
    where
      by : (place : Option NamePlace) → IsPlace m name place → LeadsFrom d n name (Some l) place →
          led_at d.view n name ≡ Some l.number
      by None at leads = cc
      by (Some p) at leads = led-there l p leads.0 at leads.1 leads.2

pub cookie-there : (d : DraftValue) (n : ℕ) (i : Option Inode) (last : ℕ) → HasInode d n i →
    last ≡ last_cookie_of (content_in i) → Knows d (λ k. last_cookie_of (content_at k.state n) ≡ last)
cookie-there d n i last has is s k w =
    contains-as d n i has s k w.fits w.stands last_cookie_of (λ b more. refl) (λ e more last. refl) ∙ sym is

abbrev header_there : Option Inode → Option Header
header_there i = elim i [ None ↦ None | Some i ↦ header_in i.content ]

-- the greatest cookie is that of the header that the draft shows
pub cookie-shown : (d : DraftValue) (n : ℕ) (i : Option Inode) (last : ℕ) → HasInode d n i →
    last ≡ last_cookie_of (content_in i) → IsLastCookie d n last
cookie-shown d n i last has is h shown = by i (inode-known d n i has) is
  where
    own : (c : Stored) → header_in c ≡ Some h → last_cookie_of (content_of c) ≡ h.last_cookie
    own (contents.Directory g) e = (let same : g ≡ h = cc in ap (λ (x : Header). x.last_cookie) same)
    own (contents.Regular map) e = cc
    own (contents.Link text) e = cc
    own (contents.BlockDevice device) e = cc
    own (contents.CharacterDevice device) e = cc
    own contents.Socket e = cc
    own contents.Fifo e = cc

    by : (j : Option Inode) → inode_at d n ≡ j → last ≡ last_cookie_of (content_in j) → last ≡ h.last_cookie
    by None e is = (let no : None ≡ Some h = sym (ap header_there e) ∙ shown in cc)
    by (Some j) e is = is ∙ own j.content (sym (ap header_there e) ∙ shown)

pub next-cookie : (d : DraftValue) (n last : ℕ) (next : Option ℕ) → IfSome next (λ cookie. cookie ≡ last + 1) →
    IsLastCookie d n last → IfSome next (IsNextCookie d n)
next-cookie d n last None next is = tt
next-cookie d n last (Some cookie) next is = λ h shown.
    (let e : last ≡ h.last_cookie = is h shown in omega (arith, next, e))

-- what is no directory has no map
pub no-map : (c : Stored) → ((h : Header) → c ≡ contents.Directory h → ⊥) → entry_map_in c ≡ None
no-map (contents.Directory h) other = absurd (other h refl)
no-map (contents.Regular map) other = refl
no-map (contents.Link text) other = refl
no-map (contents.BlockDevice device) other = refl
no-map (contents.CharacterDevice device) other = refl
no-map contents.Socket other = refl
no-map contents.Fifo other = refl

-- a directory has no entry where it has no page
listed-none : (s : Store) (n : ℕ) (m : EntryMap) (entries : List Entry) (empty : Bool) → HasEntries s n m entries →
    TellsEmpty m.pages empty → are_none entries ≡ empty
listed-none s n m [] true has told = refl
listed-none s n m [] false has told = let e : lists m.pages told.0 ≡ false = has.listed told.0 in cc
listed-none s n m (e ∷ entries) true has told =
    let page = e.cookie / 64 in
    let own : has_some (in_page page (e ∷ entries)) ≡ true =
    ap (λ b. has_some (cond b (e ∷ in_page page entries) (in_page page entries))) (eq-eqb page page refl) in
    let yes : lists m.pages page ≡ true = has.listed page ∙ own in
    let no : lists m.pages page ≡ false = told page in
    absurd (true≢false (sym yes ∙ no))
listed-none s n m (e ∷ entries) false has told = some-entry e entries

pub empty-there : (d : DraftValue) (n : ℕ) (i : Option Inode) (empty : Bool) → HasInode d n i →
    TellsBare (map_there i) empty → Knows d (λ k. are_none (entries_of (content_at k.state n)) ≡ empty)
empty-there d n None empty has is s k w = ap are_none (none-there d n None has refl s k w) ∙ sym is
empty-there d n (Some i) empty has is s k w = by (entry_map_in i.content) refl
  where
    by : (m : Option EntryMap) → entry_map_in i.content ≡ m → are_none (entries_of (content_at k.state n)) ≡ empty
    by None none =
        ap are_none (none-there d n (Some i) has none s k w) ∙ sym (subst (λ x. TellsBare x empty) none is)
    by (Some m) found =
        ap are_none (entries-own k.state n)
        ∙ listed-none (with_writes s d.writes) n m (entries_at k.state n) empty
        (entries-there d n i m has found s k w.fits w.stands) (subst (λ x. TellsBare x empty) found is)

-- ---- what a name leads to stands in each store
module _ (d : DraftValue) (x : Known) (none : d.writes ≡ []) (known : Knows d (λ k. IsKnown k.state x)) where
  on-store : (s : Store) (k : StoreMeaning) → Represents s k → Represents (with_writes s d.writes) k
  on-store s k stands = subst (λ ws. Represents (with_writes s ws) k) (sym none) stands

  abbrev named-by : Option Entry → Option ℕ
  named-by f = option_map (λ (e : Entry). e.number) f

  entry-found : (f : Option Entry) (n : ℕ) → named-by f ≡ Some n → (e : Entry) × (f ≡ Some e) × (e.number ≡ n)
  entry-found None n is = cc
  entry-found (Some e) n is = (e, refl, (let same : e.number ≡ n = cc in same))

  pub entry-lives : (name : List ℕ) (number : Option ℕ) →
      Knows d (λ k. under (content_at k.state x.number) name ≡ number) →
      IfSome number (λ n. IsThere d.view (addresses.Inode n))
  entry-lives name None is = tt
  entry-lives name (Some n) is = λ s k fits stands sound formed.
      let w : Possible d s k = record { fits = fits; stands = on-store s k stands; sound = sound } in
      let found = entry-found (entry_of (entries_of (content_at k.state x.number)) name) n (is s k w) in
      let leads = find-all (Leads k.state (object_at k.state x)) (λ (f : Entry). same_bytes f.name name)
      (entries_of (content_at k.state x.number)) found.0
      (formed.names x.number (object_at k.state x) (known s k w).lives).leads found.1 in
      object-stands s k n leads.object stands (ap (get k.state.objects) (sym found.2) ∙ leads.lives)

  pub parent-lives : (n : ℕ) → x.attributes.kind ≡ types.Directory → Knows d (λ k. k.parents x.number ≡ n) →
      IsThere d.view (addresses.Inode n)
  parent-lives n kind is = λ s k fits stands sound formed.
      let w : Possible d s k = record { fits = fits; stands = on-store s k stands; sound = sound } in
      let directory : is_directory (content_at k.state x.number) ≡ true =
      directory-kind (content_at k.state x.number) (kind-is k.state x (known s k w) ∙ kind) in
      let parent = sound.parents x.number (object_at k.state x) (known s k w).lives directory in
      object-stands s k n parent.directory stands (ap (get k.state.objects) (sym (is s k w)) ∙ parent.lives)

-- ---- ".", ".." and other names
module _ (n parent : ℕ) (es : List Entry) (name : List ℕ) where
  abbrev own : Entry
  own = record { name = codes "."; number = n; cookie = 1 }

  abbrev above : Entry
  above = record { name = codes ".."; number = parent; cookie = 2 }

  abbrev leads : Bool → Bool → Option ℕ
  leads a b = option_map (λ (e : Entry). e.number) (cond a (Some own) (cond b (Some above) (entry_of es name)))

  pub leads-self : true ≡ same_bytes (codes ".") name → leads_to n parent es name ≡ Ok n
  leads-self is = ap (λ a. ok_or (leads a (same_bytes (codes "..") name)) status.NoEntry) (sym is)

  pub leads-above : false ≡ same_bytes (codes ".") name → true ≡ same_bytes (codes "..") name →
      leads_to n parent es name ≡ Ok parent
  leads-above other is =
      ap (λ a. ok_or (leads a (same_bytes (codes "..") name)) status.NoEntry) (sym other)
      ∙ ap (λ b. ok_or (leads false b) status.NoEntry) (sym is)

  pub leads-other : (number : Option ℕ) → false ≡ same_bytes (codes ".") name → false ≡ same_bytes (codes "..") name →
      option_map (λ (e : Entry). e.number) (entry_of es name) ≡ number →
      leads_to n parent es name ≡ ok_or number status.NoEntry
  leads-other number other none is =
      ap (λ a. ok_or (leads a (same_bytes (codes "..") name)) status.NoEntry) (sym other)
      ∙ ap (λ b. ok_or (leads false b) status.NoEntry) (sym none)
      ∙ ap (λ o. ok_or o status.NoEntry) is

pub leads-by-entry : (d : DraftValue) (n : ℕ) (name : List ℕ) (r : Result (Option ℕ) Missing) (S : Missing → Type 0) →
    false ≡ same_bytes (codes ".") name → false ≡ same_bytes (codes "..") name →
    MatchResult r (λ number. Knows d (λ k. under (content_at k.state n) name ≡ number)) S →
    MatchResult r (λ number. Knows d (λ k.
    leads_to n (k.parents n) (entries_of (content_at k.state n)) name ≡ ok_or number status.NoEntry)) S
leads-by-entry d n name (Ok number) S other none is = λ s k w.
    leads-other n (k.parents n) (entries_of (content_at k.state n)) name number other none (is s k w)
leads-by-entry d n name (Err halt) S other none is = is
