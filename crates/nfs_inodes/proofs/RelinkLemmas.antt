-- What the makers of names write is their change of what the store stands for.
use Rattle.std.proofs.Common.{◌≡◌, ◌≤◌, ℕ, true, false, cond, List, [], ◌∷◌, ◌++◌, Option, Some, None, Result, Ok, Err}
use Rattle.std.proofs.Common.{option_map, inl}
use Rattle.std.proofs.Common.{IsSome, refl, sym, ◌∙◌, ap, subst}
use Rattle.std.specs.Prelude.{IfOk, MatchResult, OnOk, is_some}
use Rattle.std.specs.FinMap.{get}
use Rattle.nfs_wire.specs.declared.attributes.Time.{Time}
use Rattle.nfs_machine.specs.Attributes.{is_directory}
use Rattle.nfs_machine.specs.Checks.{entry_of}
use Rattle.nfs_machine.specs.RemoveSteps.{without}
use Rattle.nfs_machine.specs.Shown.{touched, with_content}
use Rattle.nfs_machine.specs.State.{Entry, Living}
use Rattle.nfs_machine.specs.State as machine
use Rattle.nfs_machine.specs.Times.{touch}
use Rattle.nfs_objects.proofs.FileStoreLemmas.{stands-but}
use Rattle.nfs_objects.proofs.PromiseLemmas.{turns-none}
use Rattle.nfs_objects.proofs.SeenLemmas.{known-stands, writes-append}
use Rattle.nfs_objects.proofs.TurnsLemmas.{content-same, filed-same, listing-same, put-stands}
use Rattle.nfs_objects.specs.Drafts.{MayGive}
use Rattle.nfs_objects.specs.Edits.{with_living}
use Rattle.nfs_objects.specs.Entries.{leaf_of}
use Rattle.nfs_objects.specs.Fits.{Fits}
use Rattle.nfs_objects.specs.Knows.{Turns}
use Rattle.nfs_objects.specs.Stands.{Beside, IsFitting, StoreMeaning, Represents, beside_at, content_of, entries_at}
use Rattle.nfs_objects.specs.Stands.{entry_map_in}
use Rattle.nfs_objects.specs.Stands.{filled, lives_in, living_alone, living_of_inode, map_in, parent_in}
use Rattle.nfs_objects.specs.Store.{Store, with_write, with_writes}
use Rattle.nfs_objects.specs.Unfiled.{Relists}
use Rattle.nfs_objects.specs.Values.{DraftValue, with_written}
use Rattle.nfs_objects.specs.declared.address.Addr.TheVariants as addresses
use Rattle.nfs_objects.specs.declared.change.Missing.{Missing}
use Rattle.nfs_objects.specs.declared.directory.Directory.{Directory}
use Rattle.nfs_objects.specs.declared.directory.Leaf.{Leaf}
use Rattle.nfs_objects.specs.declared.entry_map.EntryMap.{EntryMap}
use Rattle.nfs_objects.specs.declared.object.Content.{Content}
use Rattle.nfs_objects.specs.declared.object.Content.TheVariants as contents
use Rattle.nfs_objects.specs.declared.object.Inode.{Inode}
use Rattle.nfs_objects.specs.declared.object.Object.TheVariants as objects
use Rattle.nfs_inodes.proofs.EntryMoreLemmas.{relists-both, without-gone, without-gone-on}
use Rattle.nfs_inodes.proofs.LeafLemmas.{leaf-stands}
use Rattle.nfs_inodes.proofs.AsksAfterWritesLemmas.{stops-back}
use Rattle.nfs_inodes.proofs.PutObjectLemmas.{entry-found, known-inode, no-entry, turns-as}
use Rattle.nfs_inodes.proofs.DirectoryPutLemmas.{listed-turns}
use Rattle.nfs_inodes.proofs.StandsLemmas.{entries-there, links-there, lives-there, parent-there, shows-export}
use Rattle.nfs_inodes.proofs.StandsLemmas.{stands-there, whatever}
use Rattle.nfs_inodes.proofs.StillKnownLemmas.{knows-both}
use Rattle.nfs_inodes.proofs.BucketWidthLemmas.{less-both}
use Rattle.nfs_inodes.specs.Entered.{KeepsKnown, ShowsLeaf, TellsLess, always}
use Rattle.nfs_inodes.specs.Kinds.{HasDirectory}
use Rattle.nfs_inodes.specs.Known.{HasInode}
use Rattle.nfs_inodes.specs.Makes.{changed_with, name_added, name_taken, with_name, without_name}
use Rattle.nfs_inodes.specs.Renames.{name_given, name_left, rehomed, staying, with_name_given}
use Rattle.nfs_inodes.specs.Stops.{StopsAt}
use Rattle.nfs_objects.proofs.LocksStandLemmas.{keeps-same}

-- an inode with the generation of the one that is there may be put in its place
pub keeps-generation : (d : DraftValue) (n : ℕ) (i j : Inode) → HasInode d n (Some i) →
    j.generation ≡ i.generation → MayGive d n j.generation
keeps-generation d n i j has same = inl (i, known-inode d n i has, sym same)

-- the parent of what is no directory
pub other-parent : (c : Content) (parent : ℕ) → ((directory : Directory) → c ≡ contents.Directory directory →
    ⊥) → parent_in c ≡ cond (is_directory (content_of c)) parent (parent_in c)
other-parent (contents.Directory directory) parent none = absurd (none directory refl)
other-parent (contents.Regular bytes) parent none = refl
other-parent (contents.Link text) parent none = refl
other-parent (contents.BlockDevice device) parent none = refl
other-parent (contents.CharacterDevice device) parent none = refl
other-parent contents.Socket parent none = refl
other-parent contents.Fifo parent none = refl

-- ---- what a name leads to
module _ (d : DraftValue) (n : ℕ) (i : Inode) (h : Directory) (has : HasDirectory d n i h) (name : List ℕ)
    (leaf : Option Leaf) (shows : ShowsLeaf d n h.entries name leaf) where
  leaf-is : (s : Store) (k : StoreMeaning) → Fits d.view s → Represents (with_writes s d.writes) k →
      option_map leaf_of (entry_of (entries_at k.state n) name) ≡ leaf
  leaf-is s k fits stands =
      leaf-stands d s n h.entries (entries_at k.state n) fits
      (entries-there d n i h.entries has.inode (ap entry_map_in has.content) s k fits stands) name leaf shows

  -- where it leads somewhere its entry is there, and else it is not
  pub leaf-there : true ≡ is_some leaf → (s : Store) (k : StoreMeaning) → Fits d.view s
      → Represents (with_writes s d.writes) k →
      (there : Entry) × (entry_of (entries_at k.state n) name ≡ Some there)
  leaf-there some s k fits stands =
      entry-found (entry_of (entries_at k.state n) name) (some ∙ ap is_some (sym (leaf-is s k fits stands)))

  pub leaf-absent : false ≡ is_some leaf → (s : Store) (k : StoreMeaning) → Fits d.view s
      → Represents (with_writes s d.writes) k →
      entry_of (entries_at k.state n) name ≡ None
  leaf-absent none s k fits stands =
      no-entry (entry_of (entries_at k.state n) name) (none ∙ ap is_some (sym (leaf-is s k fits stands)))

-- ---- directories whose entries were written
-- the inode of a directory with other entries from now on, and so many links
abbrev pub relisted : Inode → Directory → Time → (links last : ℕ) → EntryMap → Inode
relisted i h now links last after = record i {
  content = contents.Directory (record { parent = h.parent; last_cookie = last; entries = after });
  links = links;
  modified = touch i.changed now;
  changed = touch i.changed now;
}

-- made of copies
pub relisted-copy : (i copy j : Inode) (h other : Directory) (content : Content) (at now : Time) (links last : ℕ)
    (after : EntryMap) → copy ≡ i → other ≡ h → at ≡ now →
    content ≡ contents.Directory (record { parent = other.parent; last_cookie = last; entries = after }) →
    j ≡ record copy
    { content = content; links = links; modified = touch copy.changed at; changed = touch copy.changed at } →
    j ≡ relisted i h now links last after
relisted-copy i copy j h other content at now links last after same header when is made =
    made
    ∙ ap (λ c. record copy {
      content = c;
      links = links;
      modified = touch copy.changed at;
      changed = touch
          copy.changed at;
    })
    is
    ∙ (λ p. relisted (same p) (header p) (when p) links last after)

module _ (d laid new : DraftValue) (n : ℕ) (i j : Inode) (h : Directory) (has : HasDirectory d n i h) (now : Time)
    (links : ℕ) (after : EntryMap)
    (put-is : new ≡ with_written laid (addresses.Inode n) (Some (objects.Inode j))) (fits : IsFitting n j) where
  -- a change of the directory that its new entries are
  as-listed : (last : ℕ) (change : List Entry → List Entry) (Asked : List Entry → Type 0) →
      j ≡ relisted i h now links last after → Relists n d laid h.entries after change Asked
      → (f : Living → Option Living) (count : ℕ → ℕ)
      → ((s : Store) (k : StoreMeaning) → Fits d.view s → Represents (with_writes s d.writes) k
      → Asked (entries_at k.state n))
      → ((beside : Beside) → Asked beside.entries → f (living_of_inode beside i) ≡ Some (living_of_inode
      (record beside { entries = change beside.entries }) (relisted i h now links last after)))
      → links ≡ count i.links → Turns d new (λ k. changed_with k n (count (k.links n)) f)
  as-listed last change Asked made relists f count asked becomes linked =
      let put : Inode → DraftValue = λ x. with_written laid (addresses.Inode n) (Some (objects.Inode x)) in
      subst (λ (x : DraftValue). Turns d x (λ k. changed_with k n (count (k.links n)) f)) (sym (put-is ∙ ap put made))
      (listed-turns d laid n i (relisted i h now links last after) h.entries after change Asked relists has.inode
      (ap entry_map_in has.content) refl f count asked becomes linked (sym (ap parent_in has.content)) refl refl
      (subst (IsFitting n) made fits))

  -- a name less
  pub left-turns : (name : List ℕ) → j ≡ relisted i h now links h.last_cookie after →
      Relists n d laid h.entries after (λ es. without es name) always → Turns d new (name_left now n name links)
  left-turns name made relists =
      as-listed h.last_cookie (λ es. without es name) always made relists (without_name now name) (λ l. links)
      (λ s k fit stands. tt)
      (λ beside asked. ap (λ c. without_name now name
      (record (living_alone i) { content = filled beside (content_of c) }))
      has.content) refl

  -- and the links stay
  pub taken-turns : (name : List ℕ) → j ≡ relisted i h now links h.last_cookie after → links ≡ i.links →
      Relists n d laid h.entries after (λ es. without es name) always → Turns d new (name_taken now n name)
  taken-turns name made same relists =
      as-listed h.last_cookie (λ es. without es name) always made relists (without_name now name) (λ l. l)
      (λ s k fit stands. tt)
      (λ beside asked. ap (λ c. without_name now name
      (record (living_alone i) { content = filled beside (content_of c) }))
      has.content) same

  -- a name that leads to another object, last
  pub given-turns : (left : Option (List ℕ)) (e : Entry) → j ≡ relisted i h now links e.cookie after →
      Relists n d laid h.entries after (λ es. staying es e.name left ++ e ∷ []) always →
      Turns d new (name_given now n left e links)
  given-turns left e made relists =
      as-listed e.cookie (λ es. staying es e.name left ++ e ∷ []) always made relists (with_name_given now left e)
      (λ l. links) (λ s k fit stands. tt)
      (λ beside asked. ap (λ c. with_name_given now left e
      (record (living_alone i) { content = filled beside (content_of c) })) has.content) refl

  -- a name more, where it was not there
  pub added-turns : (e : Entry) → j ≡ relisted i h now links e.cookie after →
      Relists n d laid h.entries after (λ es. es ++ e ∷ []) (λ es. entry_of es e.name ≡ None) →
      ((s : Store) (k : StoreMeaning) → Fits d.view s → Represents (with_writes s d.writes) k →
      entry_of (entries_at k.state n) e.name ≡ None) → Turns d new (name_added now n links e)
  added-turns e made relists absent =
      as-listed e.cookie (λ es. es ++ e ∷ []) (λ es. entry_of es e.name ≡ None) made relists (with_name now e)
      (λ l. links)
      absent
      (λ beside none. ap (λ c. with_name now e (record (living_alone i) { content = filled beside (content_of c) }))
      has.content
      ∙ ap (λ o. elim o [
        | None ↦ Some (with_content (living_of_inode beside i) now (machine.Directory (beside.entries ++ e ∷ [])
            e.cookie))
        | Some there ↦ None
      ]) none) refl

-- the names that leave, of which the second one goes last
module _ (n : ℕ) (d mid new : DraftValue) (before others : EntryMap) (name left : List ℕ) where
  pub staying-lists : (r : Result EntryMap Missing) → Relists n d mid before others (λ es. without es name) always
      → MatchResult r (λ m. Relists n mid new others m (λ es. without es left) always) (StopsAt mid [])
      → MatchResult r (λ m. Relists n d new before m (λ es. staying es name (Some left)) always) (StopsAt d [])
  staying-lists (Ok m) first second =
      relists-both n d mid new before others m (λ es. without es name) (λ es. without es left) always always
      (λ es asked. tt) first second
  staying-lists (Err halt) first stops = stops-back n d mid first.enters [] halt stops

  pub staying-knows : (r : Result EntryMap Missing) → KeepsKnown d mid → OnOk r (KeepsKnown mid new) →
      OnOk r (KeepsKnown d new)
  staying-knows (Ok m) first second = knows-both d mid new first second
  staying-knows (Err halt) first second = tt

  pub staying-less : (r : Result EntryMap Missing) → TellsLess others before → IfOk r (λ m. TellsLess m others) →
      IfOk r (λ m. TellsLess m before)
  staying-less (Ok m) first second = less-both m others before second first
  staying-less (Err halt) first second = tt

-- a name is given where it went before, and perhaps another one with it
pub given-relists : (n : ℕ) (d mid laid : DraftValue) (before others after : EntryMap) (left : Option (List ℕ))
    (e : Entry)
    → Relists n d mid before others (λ es. staying es e.name left) always
    → Relists n mid laid others after (λ es. es ++ e ∷ []) (λ es. entry_of es e.name ≡ None)
    → Relists n d laid before after (λ es. staying es e.name left ++ e ∷ []) always
given-relists n d mid laid before others after left e =
    relists-both n d mid laid before others after (λ es. staying es e.name left) (λ es. es ++ e ∷ []) always
    (λ es. entry_of es e.name ≡ None) (λ es asked. gone es left)
  where
    gone : (es : List Entry) (old : Option (List ℕ)) → entry_of (staying es e.name old) e.name ≡ None
    gone es None = without-gone es e.name
    gone es (Some old) = without-gone-on (without es e.name) e.name old (without-gone es e.name)

-- where a name is there, it is not added
pub kept-turns : (d : DraftValue) (n : ℕ) (i : Inode) (h : Directory) (now : Time) (links : ℕ) (e : Entry) →
    HasDirectory d n i h →
    ((s : Store) (k : StoreMeaning) → Fits d.view s → Represents (with_writes s d.writes) k →
    (there : Entry) × (entry_of (entries_at k.state n) e.name ≡ Some there)) → Turns d d (name_added now n links e)
kept-turns d n i h now links e has there =
    turns-as d d (λ k. k) (name_added now n links e) (λ s k fits stands.
    let beside = beside_at k.state n in
    sym (ap (λ (o : Option Living). elim o [ None ↦ k | Some o ↦ into k (with_name now e o) ])
    (lives-there d n (Some i) has.inode s k fits stands)
    ∙ ap (λ c. into k (with_name now e (record (living_alone i) { content = filled beside (content_of c) })))
    has.content
    ∙ ap (λ o. into k (elim o [
      | None ↦ Some (with_content (living_of_inode beside i) now (machine.Directory (beside.entries ++ e ∷ [])
          e.cookie))
      | Some there ↦ None
    ])) (there s k fits stands).1)) (turns-none d)
  where
    into : StoreMeaning → Option Living → StoreMeaning
    into k p = elim p [ None ↦ k | Some p ↦ with_living k n p links (k.parents n) ]

module _ (d : DraftValue) (n : ℕ) where
  abbrev put : Inode → DraftValue
  put j = with_written d (addresses.Inode n) (Some (objects.Inode j))

  -- ---- the object that moves
  module _ (now : Time) (directory : ℕ) where
    abbrev homes : StoreMeaning → Option Living → StoreMeaning
    homes k o = elim o [
      | None ↦ k
      | Some o ↦ with_living k n (touched o now) (k.links n) (cond (is_directory o.content) directory (k.parents n))
    ]

    pub none-rehomed : HasInode d n None → Turns d d (rehomed now n directory)
    none-rehomed has = turns-as d d (λ k. k) (rehomed now n directory)
        (λ s k fits stands. sym (ap (homes k) (lives-there d n None has s k fits stands))) (turns-none d)

    put-rehomed : (i j : Inode) → HasInode d n (Some i) →
        ((beside : Beside) → living_of_inode beside j ≡ touched (living_of_inode beside i) now) →
        map_in j.content ≡ map_in i.content → entry_map_in j.content ≡ entry_map_in i.content → j.links ≡ i.links
        → parent_in j.content ≡ cond (is_directory (content_of i.content)) directory (parent_in i.content) →
        IsFitting n j → Turns d (put j) (rehomed now n directory)
    put-rehomed i j has is kept listed linked under fit = record {
      ctx = refl;
      view = refl;
      modes = refl;
      messages = refl;
      turns = λ s k fits stands.
          let at : (with_writes s d.writes).at (addresses.Inode n) ≡ Some (objects.Inode i) =
          known-stands d s (addresses.Inode n) (Some (objects.Inode i)) fits (known-inode d n i has) in
          let beside = beside_at k.state n in
          let lives : get k.state.objects n ≡ Some (living_of_inode beside i) =
          lives-there d n (Some i) has s k fits stands in
          let links : k.links n ≡ i.links = links-there d n (Some i) has s k fits stands in
          let parent : k.parents n ≡ parent_in i.content = parent-there d n (Some i) has s k fits stands in
          let exported : j.export ≡ i.export = ap (λ (o : Living). o.export) (is beside) in
          let generation : j.generation ≡ i.generation = ap (λ (o : Living). o.generation) (is beside) in
          let there = stands-there d n (Some i) has s k fits stands in
          let stood = put-stands (with_writes s d.writes) k n j beside (stands-but n (with_writes s d.writes) k stands)
          (filed-same (with_writes s d.writes) k n i j stands at kept)
          (content-same (with_writes s d.writes) k n i j stands there kept)
          (listing-same (with_writes s d.writes) k n i j stands at there listed)
          (subst (λ g. g ≤ (with_writes s d.writes).last n) (sym generation) (stands.objects.given n i at)) fit
          (ap (lives_in k.state.exports) exported ∙ shows-export d n i has s k fits stands)
          (keeps-same (with_writes s d.writes) n i j at exported (λ some. subst (λ o. IsSome o) (sym kept) some)) in
          let same : rehomed now n directory k ≡ with_living k n (living_of_inode beside j) j.links
          (parent_in j.content) =
          ap (homes k) lives
          ∙ ap (λ l. with_living k n (touched (living_of_inode beside i) now) l
          (cond (is_directory (filled beside (content_of i.content))) directory (k.parents n))) (links ∙ sym linked)
          ∙ ap (λ b. with_living k n (touched (living_of_inode beside i) now) j.links (cond b directory (k.parents n)))
          (whatever is_directory (λ b more. refl) (λ e more last. refl) beside (content_of i.content))
          ∙ ap (λ p. with_living k n (touched (living_of_inode beside i) now) j.links
          (cond (is_directory (content_of i.content)) directory p)) parent
          ∙ ap (λ p. with_living k n (touched (living_of_inode beside i) now) j.links p) (sym under)
          ∙ ap (λ o. with_living k n o j.links (parent_in j.content)) (sym (is beside)) in
          subst (λ (x : Store). Represents x (rehomed now n directory k))
          (sym (writes-append d.writes s (addresses.Inode n) (Some (objects.Inode j))))
          (subst (Represents (with_write (with_writes s d.writes) (addresses.Inode n) (Some (objects.Inode j))))
          (sym same) stood);
    }

    pub rehomed-turns : (new : DraftValue) (i copy : Inode) (content : Content) (changed : Time) →
        HasInode d n (Some i) → copy ≡ i → changed ≡ touch copy.changed now →
        content_of content ≡ content_of copy.content → map_in content ≡ map_in copy.content
        → entry_map_in content ≡ entry_map_in copy.content
        → parent_in content ≡ cond (is_directory (content_of copy.content)) directory (parent_in copy.content)
        → new ≡ put (record copy { content = content; changed = changed })
        → IsFitting n (record copy { content = content; changed = changed })
        → Turns d new (rehomed now n directory)
    rehomed-turns new i copy content changed has same touched-is content-is map-is listed-is under put-is fits =
        subst (λ (z : DraftValue). Turns d z (rehomed now n directory)) (sym put-is)
        (put-rehomed i (record copy { content = content; changed = changed }) has
        (λ beside. ap (λ c. record (living_alone copy) { content = filled beside c; changed = changed }) content-is
        ∙ ap (λ t. record (living_of_inode beside copy) { changed = t }) touched-is
        ∙ ap (λ (x : Inode). touched (living_of_inode beside x) now) same)
        (map-is ∙ ap (λ (x : Inode). map_in x.content) same)
        (listed-is ∙ ap (λ (x : Inode). entry_map_in x.content) same)
        (ap (λ (x : Inode). x.links) same)
        (under ∙ ap (λ (x : Inode). cond (is_directory (content_of x.content)) directory (parent_in x.content))
        same) fits)
