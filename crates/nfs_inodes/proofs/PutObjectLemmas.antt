-- What makers write is their change of what the store stands for.
use Rattle.std.proofs.Common.{◌≡◌, ℕ, ◌+◌, ◌-◌, ◌*◌, ◌/◌, ◌<◌, ◌^◌, ◌&&◌, true, false, Bool, cond}
use Rattle.std.proofs.Common.{List, [], ◌∷◌, ◌++◌, Option, Some, None, IsSome, Result, Ok, Err, option_map, slice_get}
use Rattle.std.proofs.Common.{inl, inr, ◌==◌, refl, sym, ◌∙◌, ap, subst}
use Rattle.std.proofs.lemmas.Bool.{lt-leb}
use Rattle.std.specs.List.{AllByRecursion}
use Rattle.std.specs.Prelude.{IfSome, MatchResult, is_some}
use Rattle.nfs_wire.specs.declared.attributes.FileType.{FileType}
use Rattle.nfs_wire.specs.declared.attributes.Time.{Time}
use Rattle.nfs_wire.specs.declared.status.NfsStatus.{NfsStatus}
use Rattle.std.specs.Cmp.{unsigned_Decides}
use Rattle.std.specs.FinMap.{get}
use Rattle.nfs_machine.specs.Attributes.{block, used_of}
use Rattle.nfs_machine.specs.Checks.{DirectoryEntries, bytes_in, entries_in}
use Rattle.nfs_machine.specs.Shown.{touched, with_object}
use Rattle.nfs_machine.specs.State.{Entry, Living}
use Rattle.nfs_machine.specs.Times.{touch}
use Rattle.nfs_objects.proofs.StandsInExportLemmas.{inode-stands}
use Rattle.nfs_objects.proofs.KnowsLemmas.{among-behind, among-front, among-groups, covers-among, stops-wider}
use Rattle.nfs_objects.proofs.PromiseLemmas.{turns-both, turns-none}
use Rattle.nfs_objects.proofs.SeenLemmas.{known-stands, shown-stands, writes-append, written-append}
use Rattle.nfs_objects.proofs.TurnsLemmas.{edit-turns, new-stands}
use Rattle.nfs_objects.specs.Asks.{IsFirst}
use Rattle.nfs_objects.specs.Calls.{IsAmong, addresses_of, usages_of}
use Rattle.nfs_objects.specs.Directories.{no_entries}
use Rattle.nfs_objects.specs.Drafts.{MayGive}
use Rattle.nfs_objects.proofs.TallyLemmas.{get-removed}
use Rattle.nfs_objects.specs.Edits.{counted_anew, edited, freed, recounted, with_living, with_new}
use Rattle.nfs_objects.specs.Entries.{leaf_of}
use Rattle.nfs_objects.specs.Fits.{Fits, vacant}
use Rattle.nfs_objects.specs.Knows.{Knows, ShowsExport, Turns}
use Rattle.nfs_objects.specs.Stands.{Beside, IsFitting, StoreMeaning, Represents, beside_at, content_of, entry_map_in}
use Rattle.nfs_objects.specs.Stands.{filled}
use Rattle.nfs_objects.specs.Stands.{living_alone, living_in, living_of_inode, map_in, pages_of}
use Rattle.nfs_objects.specs.Stands.{exports_of, inode_in, lives_in, parent_in}
use Rattle.nfs_objects.specs.Store.{Store, with_writes}
use Rattle.nfs_objects.specs.Sums.{exchanged, exchanged_at, group_of, in_export, is_same_usage, moved, no_usage}
use Rattle.nfs_objects.specs.Sums.{one_using, shares_of}
use Rattle.nfs_objects.specs.Values.{DraftValue, Seen, ViewValue, is_addr, known_at, seen_at, shown_at, with_written}
use Rattle.nfs_objects.specs.Values.{written_at}
use Rattle.nfs_objects.specs.declared.address.Addr.{Addr}
use Rattle.nfs_objects.specs.declared.address.Addr.TheVariants as addresses
use Rattle.nfs_objects.specs.declared.change.Missing.{Missing}
use Rattle.nfs_objects.specs.declared.directory.Directory.{Directory}
use Rattle.nfs_objects.specs.declared.entry_map.EntryMap.{EntryMap}
use Rattle.nfs_objects.specs.declared.object.Content.{Content}
use Rattle.nfs_objects.specs.declared.object.Content.TheVariants as contents
use Rattle.nfs_objects.specs.declared.object.Inode.{Inode}
use Rattle.nfs_objects.specs.declared.object.Object.{Object}
use Rattle.nfs_objects.specs.declared.object.Object.TheVariants as objects
use Rattle.nfs_objects.specs.declared.usage.Usage.{Usage}
use Rattle.nfs_objects.specs.declared.view.Reserved.{Reserved}
use Rattle.nfs_inodes.proofs.UsageChangeLemmas.{no-share}
use Rattle.nfs_inodes.proofs.ReaderHaltLemmas.{stops-before}
use Rattle.nfs_inodes.proofs.KeptBesideLemmas.{put-there}
use Rattle.nfs_objects.proofs.FileStoreLemmas.{beside_of, living-as, size-stands}
use Rattle.nfs_objects.specs.Bits.{no_bits}
use Rattle.nfs_objects.specs.FileMaps.{FileMapValue}
use Rattle.nfs_inodes.proofs.StandsLemmas.{lives-there, shows-export, stands-there}
use Rattle.nfs_inodes.specs.Counts.{IsShareOf, KeepsInodes, uncounted}
use Rattle.nfs_inodes.specs.Kinds.{KeepsOthers, kind_at, kind_of}
use Rattle.nfs_inodes.specs.Known.{HasInode}
use Rattle.nfs_inodes.specs.Sets.{attributes_changed, with_settings}
use Rattle.nfs_inodes.specs.declared.setting.Settings.{Settings}
use Rattle.nfs_inodes.specs.Makes.{IsFree, changed_at, changed_with, removed, with_bytes}
use Rattle.nfs_inodes.specs.Stops.{StopsAt, StopsMaking, counted_at, group_at, inode_at}
use Rattle.nfs_inodes.specs.declared.usage.Share.{Share}

-- the same change, in each store
pub turns-as : (old new : DraftValue) (f g : StoreMeaning → StoreMeaning)
    → ((s : Store) (k : StoreMeaning) → Fits old.view s → Represents (with_writes s old.writes) k → f k ≡ g k)
    → Turns old new f
    → Turns old new g
turns-as old new f g same turns = record {
  ctx = turns.ctx;
  view = turns.view;
  modes = turns.modes;
  messages = turns.messages;
  turns = λ s k fits stands. subst (Represents (with_writes s new.writes)) (same s k fits stands)
      (turns.turns s k fits stands);
}

pub known-inode : (d : DraftValue) (n : ℕ) (i : Inode) → HasInode d n (Some i)
    → known_at d (addresses.Inode n) ≡ Some (Some (objects.Inode i))
known-inode d n i has = has.known ∙ ap Some (inode-stands has.exports has.object i (sym has.is)).stands

-- what is of another kind stays
abbrev read-so : (List ℕ → Option Living) → Result (List ℕ) NfsStatus → Option Living
read-so f r = elim r [ Ok bytes ↦ f bytes | Err e ↦ None ]

pub no-file : (c : Content) (f : List ℕ → Option Living) → ((map : FileMapValue) → c ≡ contents.Regular map → ⊥)
    → read-so f (bytes_in (content_of c)) ≡ None
no-file (contents.Regular map) f none = absurd (none map refl)
no-file (contents.Directory directory) f none = refl
no-file (contents.Link text) f none = refl
no-file (contents.BlockDevice device) f none = refl
no-file (contents.CharacterDevice device) f none = refl
no-file contents.Socket f none = refl
no-file contents.Fifo f none = refl

abbrev listed-so : (DirectoryEntries → Option Living) → Result (DirectoryEntries) NfsStatus → Option Living
listed-so f r = elim r [ Ok entries ↦ f entries | Err e ↦ None ]

pub no-directory : (c : Content) (f : DirectoryEntries → Option Living)
    → ((directory : Directory) → c ≡ contents.Directory directory → ⊥)
    → listed-so f (entries_in (content_of c)) ≡ None
no-directory (contents.Directory directory) f none = absurd (none directory refl)
no-directory (contents.Regular bytes) f none = refl
no-directory (contents.Link text) f none = refl
no-directory (contents.BlockDevice device) f none = refl
no-directory (contents.CharacterDevice device) f none = refl
no-directory contents.Socket f none = refl
no-directory contents.Fifo f none = refl

-- an inode with one link less, made of a copy
pub unlinked-same : (copy i : Inode) (links : ℕ) (changed now : Time) → copy ≡ i → links ≡ copy.links - 1
    → changed ≡ touch copy.changed now
    → record copy { links = links; changed = changed } ≡ record i { links = i.links - 1; changed = touch i.changed now }
unlinked-same copy i links changed now same linked touched-is =
    ap (λ l. record copy { links = l; changed = changed }) linked
    ∙ ap (λ t. record copy { links = copy.links - 1; changed = t }) touched-is
    ∙ ap (λ (x : Inode). record x { links = x.links - 1; changed = touch x.changed now }) same

-- what a look-up of a name tells of its entry
pub entry-found : (o : Option Entry) → true ≡ is_some (option_map leaf_of o) → (e : Entry) × (o ≡ Some e)
entry-found None e = cc
entry-found (Some x) e = (x, refl)

pub no-entry : (o : Option Entry) → false ≡ is_some (option_map leaf_of o) → o ≡ None
no-entry None e = refl
no-entry (Some x) e = cc

-- the file of an inode, with other bytes
pub with-bytes : (i : Inode) (map after : FileMapValue) (beside : Beside) (now : Time) (change : List ℕ → List ℕ)
    → i.content ≡ contents.Regular map
    → with_bytes now change (living_of_inode beside i) ≡
    Some (living_of_inode (record beside { bytes = change beside.bytes }) (record i
    { content = contents.Regular after; modified = touch i.changed now; changed = touch i.changed now }))
with-bytes i map after beside now change was =
    ap (λ c. with_bytes now change (record (living_alone i) { content = filled beside (content_of c) })) was

module _ (d : DraftValue) (n : ℕ) where
  abbrev put : Inode → DraftValue
  put j = with_written d (addresses.Inode n) (Some (objects.Inode j))

  -- ---- a change that may leave the object, with a count of links that comes of the one before it
  module _ (change : Living → Option Living) (links : ℕ → ℕ) where
    abbrev over : StoreMeaning → Option Living → StoreMeaning
    over k o = elim o [
      | None ↦ k
      | Some o ↦ elim (change o) [
        | None ↦ k
        | Some p ↦ with_living k n p (links (k.links n))
            (k.parents n)
      ]
    ]

    abbrev into : StoreMeaning → Option Living → StoreMeaning
    into k p = elim p [ None ↦ k | Some p ↦ with_living k n p (links (k.links n)) (k.parents n) ]

    abbrev op : StoreMeaning → StoreMeaning
    op k = changed_with k n (links (k.links n)) change

    pub none-turns-with : HasInode d n None → Turns d d op
    none-turns-with has = turns-as d d (λ k. k) op
        (λ s k fits stands. sym (ap (over k) (lives-there d n None has s k fits stands))) (turns-none d)

    pub same-turns-with : (i : Inode) → HasInode d n (Some i)
        → ((beside : Beside) → change (living_of_inode beside i) ≡ None) → Turns d d op
    same-turns-with i has is =
        turns-as d d (λ k. k) op (λ s k fits stands. sym (ap (over k) (lives-there d n (Some i) has s k fits stands)
        ∙ ap (into k) (is (beside_at k.state n)))) (turns-none d)

    pub put-turns-with : (i j : Inode) → HasInode d n (Some i)
        → ((beside : Beside) → change (living_of_inode beside i) ≡ Some (living_of_inode beside j))
        → map_in j.content ≡ map_in i.content → entry_map_in j.content ≡ entry_map_in i.content
        → j.links ≡ links i.links → parent_in j.content ≡ parent_in i.content
        → j.generation ≡ i.generation → j.export ≡ i.export → IsFitting n j → Turns d (put j) op
    put-turns-with i j has is kept listed linked under generation exported fits =
        turns-as d (put j) (λ k. edited k n made links) op
        (λ s k fit stands. (let beside = beside_at k.state n in
        let lives = lives-there d n (Some i) has s k fit stands in
        ap (λ (o : Option Living). elim o [
          | None ↦ k
          | Some o ↦ with_living k n (made o) (links (k.links n))
              (k.parents n)
        ]) lives
        ∙ ap (λ (o : Living). with_living k n o (links (k.links n)) (k.parents n)) (sym (made-is beside))
        ∙ sym (ap (over k) lives ∙ ap (into k) (is beside))))
        (edit-turns d n i j made links (known-inode d n i has) (shows-export d n i has) exported
        made-is kept listed linked under generation fits)
      where
        -- the other inode, with the bytes that a file had, and the entries of a directory
        made : Living → Living
        made o = living_of_inode (beside_of o.content) j

        made-is : (beside : Beside) → living_of_inode beside j ≡ made (living_of_inode beside i)
        made-is beside = sym (living-as beside i j kept listed)

  -- the same where the count stays
  module _ (change : Living → Option Living) where
    pub none-turns : HasInode d n None → Turns d d (λ k. changed_at k n change)
    none-turns = none-turns-with change (λ l. l)

    pub same-turns : (i : Inode) → HasInode d n (Some i)
        → ((beside : Beside) → change (living_of_inode beside i) ≡ None) → Turns d d (λ k. changed_at k n change)
    same-turns = same-turns-with change (λ l. l)

    pub put-turns : (i j : Inode) → HasInode d n (Some i)
        → ((beside : Beside) → change (living_of_inode beside i) ≡ Some (living_of_inode beside j))
        → map_in j.content ≡ map_in i.content → entry_map_in j.content ≡ entry_map_in i.content → j.links ≡ i.links
        → parent_in j.content ≡ parent_in i.content
        → j.generation ≡ i.generation → j.export ≡ i.export → IsFitting n j
        → Turns d (put j) (λ k. changed_at k n change)
    put-turns = put-turns-with change (λ l. l)

  -- ---- the attributes of an object
  pub set-turns : (new : DraftValue) (i j : Inode) (set : Settings) → HasInode d n (Some i)
      → j ≡ record i {
        mode = set.mode;
        uid = set.uid;
        gid = set.gid;
        accessed = set.accessed;
        modified = set.modified;
        changed = set.changed;
        verifier = None;
      } → new ≡ put j
      → IsFitting n j → Turns d new (attributes_changed n set)
  set-turns new i j set has made put-is fits =
      let j1 : Inode = record i {
        mode = set.mode;
        uid = set.uid;
        gid = set.gid;
        accessed = set.accessed;
        modified = set.modified;
        changed = set.changed;
        verifier = None;
      } in
      subst (λ (x : DraftValue). Turns d x (attributes_changed n set)) (sym (put-is ∙ ap put made))
      (put-turns (λ o. Some (with_settings set o)) i j1 has (λ beside. refl) refl refl refl refl refl refl
      (subst (IsFitting n) made fits))

  -- ---- an object with one link less
  pub unlinked-none : (now : Time) → HasInode d n None → Turns d d (λ k. edited k n (λ o. touched o now) (λ l. l - 1))
  unlinked-none now has =
      turns-as d d (λ k. k) (λ k. edited k n (λ o. touched o now) (λ l. l - 1))
      (λ s k fits stands. sym
      (ap (λ (o : Option Living). elim o [
        | None ↦ k
        | Some o ↦ with_living k n (touched o now) (k.links n - 1)
            (k.parents n)
      ])
      (lives-there d n None has s k fits stands)))
      (turns-none d)

  pub unlinked-turns : (new : DraftValue) (i j : Inode) (now : Time) → HasInode d n (Some i)
      → j ≡ record i { links = i.links - 1; changed = touch i.changed now } → new ≡ put j → IsFitting n j
      → Turns d new (λ k. edited k n (λ o. touched o now) (λ l. l - 1))
  unlinked-turns new i j now has made put-is fits =
      subst (λ (x : DraftValue). Turns d x (λ k. edited k n (λ o. touched o now) (λ l. l - 1)))
      (sym (put-is ∙ ap put made))
      (edit-turns d n i (record i { links = i.links - 1; changed = touch i.changed now }) (λ o. touched o now)
      (λ l. l - 1) (known-inode d n i has) (shows-export d n i has) refl (λ beside. refl) refl refl refl refl refl
      (subst (IsFitting n) made fits))

  -- what was known stays known
  pub knows-on : (new : DraftValue) (o : Option Object) → new ≡ with_written d (addresses.Inode n) o → (a : Addr)
      → IsSome (known_at d a) → IsSome (known_at new a)
  knows-on new o is a some =
      subst (λ (x : DraftValue). IsSome (known_at x a)) (sym is)
      (subst (λ x. IsSome x) (sym (written-append d.writes _ (addresses.Inode n) o a))
      (by (is_addr (addresses.Inode n) a)))
    where
      by : (b : Bool) → IsSome (cond b (Some o) (known_at d a))
      by true = refl
      by false = some

-- ---- a number that may be given
all_first : {X : Type 0} (P : X → Type 0) (xs : List X) (x : X) → AllByRecursion P xs → slice_get xs 0 ≡ Some x → P x
all_first P [] x all first = cc
all_first P (y ∷ ys) x all first = subst P (let same : y ≡ x = cc in same) all.0

pub first-free : (d : DraftValue) (r : Reserved) → d.writes ≡ [] → IsFirst d r → r.number < 2 ^ 64
    → r.generation < 2 ^ 64 → Knows d (λ k. IsFree k.state r)
first-free d r none first number generation s k w =
    let stands : Represents s k = subst (λ ws. Represents (with_writes s ws) k) none w.stands in
    let is : (seen_at d.view.entries (addresses.Inode r.number) ≡ Some (vacant r)) × (s.last r.number < r.generation) =
    all_first (λ (q : Reserved). (seen_at d.view.entries (addresses.Inode q.number) ≡ Some (vacant q))
    × (s.last q.number < q.generation)) d.view.reserved r w.fits.reserved first.first in
    let at : s.at (addresses.Inode r.number) ≡ None =
    shown-stands d.view.entries s.at (addresses.Inode r.number) None w.fits.entries
    (ap (option_map (λ (e : Seen). e.object)) is.0) in
    record {
      number_fits = number;
      generation_fits = generation;
      free = stands.objects.objects r.number ∙ ap (living_in k.state.exports (beside_at k.state r.number)) at;
      never_given = stands.objects.spent r.number r.generation ∙ lt-leb r.generation (s.last r.number) is.1;
    }

-- the pages of what is put, where it is new
pub blank-pages : (content : Content) → IfSome (map_in content) (λ map. map.pages ≡ no_bits) →
    elim (map_in content) [ None ↦ no_bits | Some map ↦ map.pages ] ≡ no_bits
blank-pages content blank = by (map_in content) blank
  where
    by : (m : Option FileMapValue) → IfSome m (λ map. map.pages ≡ no_bits) →
        elim m [ None ↦ no_bits | Some map ↦ map.pages ] ≡ no_bits
    by None is = refl
    by (Some map) is = is

-- a directory with no entry is so by its own key
pub bare-keyed : (content : Content) (key : List ℕ) → IfSome (entry_map_in content) (λ m. m ≡ no_entries key) →
    IfSome (entry_map_in content) (λ m. m ≡ no_entries m.key)
bare-keyed content key bare = by (entry_map_in content) bare
  where
    by : (m : Option EntryMap) → IfSome m (λ m. m ≡ no_entries key) → IfSome m (λ m. m ≡ no_entries m.key)
    by None is = tt
    by (Some m) is = is ∙ ap no_entries (sym (ap (λ (x : EntryMap). x.key) is))

-- nothing stands at the first number that may be given, as the view shows
pub first-vacant : (d : DraftValue) (r : Reserved) → d.writes ≡ [] → IsFirst d r → (s : Store) → Fits d.view s →
    known_at d (addresses.Inode r.number) ≡ Some None
first-vacant d r none first s fits =
    let is = all_first (λ (q : Reserved). (seen_at d.view.entries (addresses.Inode q.number) ≡ Some (vacant q)) ×
    (s.last q.number < q.generation)) d.view.reserved r fits.reserved first.first in
    ap (λ ws. written_at (shown_at d.view.entries (addresses.Inode r.number)) ws (addresses.Inode r.number)) none
    ∙ ap (option_map (λ (e : Seen). e.object)) is.0

-- where a draft shows a kind something stands
not-vacant : (d : DraftValue) (n : ℕ) (kind : FileType) → kind_at d n ≡ Some kind
    → known_at d (addresses.Inode n) ≡ Some None →
    ⊥
not-vacant d n kind shown vacant = by (known_at d addresses.Exports) refl
  where
    at : Option (Option Object) → Option (Option Object) → Option Inode
    at e o = elim e [
      | None ↦ None
      | Some exports ↦ elim o [ None ↦ None | Some object ↦ inode_in (exports_of exports) object ]
    ]

    by : (e : Option (Option Object)) → known_at d addresses.Exports ≡ e → ⊥
    by None is = (let no : None ≡ Some kind = sym (ap (λ x. option_map kind_of (at x (known_at d (addresses.Inode n))))
        is) ∙ shown in cc)
    by (Some exports) is = (let no : None ≡ Some kind =
        sym ((λ j. option_map kind_of (at (is j) (vacant j)))) ∙ shown in cc)

-- it stays so while another number is written, of which the draft shows a kind, and the usage of a group
pub stays-vacant : (old mid late : DraftValue) (r : Reserved) (n : ℕ) (kind : FileType) → old.writes ≡ []
    → IsFirst old r →
    kind_at old n ≡ Some kind → KeepsOthers old mid n → KeepsInodes mid late → late.view ≡ old.view → (s : Store) →
    Fits old.view s → (with_writes s late.writes).at (addresses.Inode r.number) ≡ None
stays-vacant old mid late r n kind none first shown others keeps same s fits =
    let vacant = first-vacant old r none first s fits in
    known-stands late s (addresses.Inode r.number) None (subst (λ v. Fits v s) (sym same) fits)
    (keeps.inodes r.number ∙ others r.number (by vacant (n == r.number) refl) ∙ vacant)
  where
    by : known_at old (addresses.Inode r.number) ≡ Some None → (b : Bool) → (n == r.number) ≡ b → b ≡ false
    by vacant true is = absurd (not-vacant old n kind shown
        (subst (λ q. known_at old (addresses.Inode q) ≡ Some None) (sym ((unsigned_Decides n r.number).0 is)) vacant))
    by vacant false is = refl

-- a new object with the number and generation that were reserved, once its directory has its name
put-new-turns : (old mid new : DraftValue) (f : StoreMeaning → StoreMeaning) (r : Reserved) (i : Inode) (o : Living)
    (links parent : ℕ)
    → Turns old mid f → ((k : StoreMeaning) → (f k).state.exports ≡ k.state.exports) → ShowsExport old o.export
    → new ≡ with_written mid (addresses.Inode r.number) (Some (objects.Inode i))
    → ((s : Store) → Fits old.view s → (with_writes s mid.writes).at (addresses.Inode r.number) ≡ None)
    → pages_of (Some (objects.Inode i)) ≡ no_bits → IfSome (entry_map_in i.content) (λ m. m ≡ no_entries m.key)
    → living_alone i ≡ o → i.links ≡ links → parent_in i.content ≡ parent → IsFitting r.number i
    → Turns old new (λ k. with_new (f k) r.number o links parent)
put-new-turns old mid new f r i o links parent turns stay live is vacant none bare lives linked under fits =
    let put : DraftValue = with_written mid (addresses.Inode r.number) (Some (objects.Inode i)) in
    subst (λ (x : DraftValue). Turns old x (λ k. with_new (f k) r.number o links parent)) (sym is)
    (subst (λ (l : Living). Turns old put (λ k. with_new (f k) r.number l links parent)) lives
    (subst (λ l. Turns old put (λ k. with_new (f k) r.number (living_alone i) l parent)) linked
    (subst (λ p. Turns old put (λ k. with_new (f k) r.number (living_alone i) i.links p)) under
    (record {
      ctx = turns.ctx;
      view = turns.view;
      modes = turns.modes;
      messages = turns.messages;
      turns = λ s k fit stands.
          subst (λ (x : Store). Represents x (with_new (f k) r.number (living_alone i) i.links (parent_in i.content)))
          (sym (writes-append mid.writes s (addresses.Inode r.number) (Some (objects.Inode i))))
          (new-stands (with_writes s mid.writes) (f k) r.number i (turns.turns s k fit stands) (vacant s fit) none
          bare fits
          (ap (λ es. lives_in es i.export) (stay k)
          ∙ subst (ShowsExport old) (sym (ap (λ (l : Living). l.export) lives)) live s k fit stands));
    }))))

-- a change of what lives at a number leaves the exports
pub exports-stay : (k : StoreMeaning) (n links : ℕ) (change : Living → Option Living) →
    (changed_with k n links change).state.exports ≡ k.state.exports
exports-stay k n links change = by (get k.state.objects n)
  where
    into : Option Living → StoreMeaning
    into p = elim p [ None ↦ k | Some p ↦ with_living k n p links (k.parents n) ]

    made : (p : Option Living) → (into p).state.exports ≡ k.state.exports
    made None = refl
    made (Some p) = refl

    by : (o : Option Living) → (elim o as (λ (x : Option Living). StoreMeaning) [
      | None ↦ k
      | Some o ↦ into (change o)
    ]).state.exports ≡ k.state.exports
    by None = refl
    by (Some o) = made (change o)

-- ---- what is counted anew
-- shares that are the same in each export
pub same-shares : (n : ℕ) (usage : ℕ → ℕ → Usage) (a b c d : ℕ → Usage) → ((e : ℕ) → a e ≡ c e)
    → ((e : ℕ) → b e ≡ d e)
    → exchanged_at n a b usage ≡ exchanged_at n c d usage
same-shares n usage a b c d before after = λ i. exchanged_at n (λ e. before e i) (λ e. after e i) usage

pub has-kept : (d mid : DraftValue) (n : ℕ) (i : Option Inode) → KeepsInodes d mid → HasInode d n i
    → HasInode mid n i
has-kept d mid n i keeps has = record {
  exports = has.exports;
  living = record { object = has.living.object; known = keeps.exports ∙ has.living.known; is = has.living.is };
  object = has.object;
  known = keeps.inodes n ∙ has.known;
  is = has.is;
}

-- the object at a number has another share of this export
abbrev pub counted : (number export : ℕ) → (before after : Usage) → StoreMeaning → StoreMeaning
counted number export before after k = recounted number (in_export export before) (in_export export after) k

-- ---- why it may be asked for
pub object-stops : (d : DraftValue) (n : ℕ) (halt : Missing) → StopsAt d (addresses_of d.view n) halt
    → StopsAt d (counted_at d n) halt
object-stops d n halt stops =
    stops-wider d.modes (addresses_of d.view n) (counted_at d n) 0 d.view halt
    (covers-among (addresses_of d.view n) (counted_at d n) d.view
    (among-front (addresses_of d.view n) (group_at n (inode_at d n)))) stops

pub making-stops : (d : DraftValue) (few : List Addr) (export : ℕ) (halt : Missing) → StopsAt d few halt
    → StopsMaking d (few ++ usages_of export 64) halt
making-stops d few export halt stops =
    stops-wider d.modes few (few ++ usages_of export 64) 1 d.view halt
    (covers-among few (few ++ usages_of export 64) d.view (among-front few (usages_of export 64))) stops

pub counting-stops : (old mid : DraftValue) (op : StoreMeaning → StoreMeaning) (few : List Addr) (export number : ℕ)
    (halt : Missing)
    → Turns old mid op
    → StopsAt mid (addresses.Usage export (group_of number) ∷ []) halt
    → StopsMaking old (few ++ usages_of export 64) halt
counting-stops old mid op few export number halt turns stops =
    stops-wider old.modes (addresses.Usage export (group_of number) ∷ []) (few ++ usages_of export 64) 1 old.view halt (
      inl (among-behind few (usages_of export 64) (addresses.Usage export (group_of number))
          (among-groups export number)),
      tt,
    ) (stops-before old mid op (λ view. addresses.Usage export (group_of number) ∷ []) halt turns stops)

pub all-stops : {A : Type 0} (d : DraftValue) (n : ℕ) (P : A → Type 0) (r : Result A Missing)
    → MatchResult r P (StopsAt d (addresses_of d.view n))
    → MatchResult r P (StopsAt d (counted_at d n))
all-stops d n P (Ok x) does = does
all-stops d n P (Err halt) stops = object-stops d n halt stops

-- the inode that the draft knows there
pub inode-known : (d : DraftValue) (n : ℕ) (i : Option Inode) → HasInode d n i → inode_at d n ≡ i
inode-known d n i has =
    ap (λ (e : Option (Option Object)). elim e [
      | None ↦ None
      | Some exports ↦ elim (known_at d (addresses.Inode n)) [
        | None ↦ None
        | Some object ↦ inode_in (exports_of exports) object
      ]
    ]) has.living.known
    ∙ ap (λ (o : Option (Option Object)). elim o [
      | None ↦ None
      | Some object ↦ inode_in (exports_of has.living.object) object
    ]) has.known
    ∙ ap (λ es. inode_in es has.object) (sym has.living.is) ∙ sym has.is

pub usage-stops : (d : DraftValue) (n : ℕ) (i : Inode) (share : Share) (halt : Missing) → HasInode d n (Some i)
    → IsShareOf i share
    → StopsAt d (addresses.Usage share.export (group_of n) ∷ []) halt → StopsAt d (counted_at d n) halt
usage-stops d n i share halt has shares stops =
    let group : IsAmong (group_at n (Some i)) (addresses.Usage share.export (group_of n)) =
    inl (ap (λ (x : Share). addresses.Usage x.export (group_of n)) (sym shares)) in
    stops-wider d.modes (addresses.Usage share.export (group_of n) ∷ []) (counted_at d n) 0 d.view halt (
      inl (among-behind (addresses_of d.view n) (group_at n (inode_at d n))
          (addresses.Usage share.export (group_of n))
          (subst (λ o. IsAmong (group_at n o) (addresses.Usage share.export (group_of n)))
          (sym (inode-known d n (Some i) has)) group)),
      tt,
    ) stops

-- what stays is counted as it was
same-counts : (d : DraftValue) (n : ℕ) (op : StoreMeaning → StoreMeaning) → Turns d d op
    → ((s : Store) (k : StoreMeaning) → Fits d.view s → Represents (with_writes s d.writes) k → op k ≡ k)
    → Turns d d (λ k. counted_anew n (get k.state.objects n) (op k))
same-counts d n op turns same =
    turns-as d d (λ k. k) (λ k. counted_anew n (get k.state.objects n) (op k)) (λ s k stand represents.
    sym (ap (λ (q : StoreMeaning). counted_anew n (get k.state.objects n) q) (same s k stand represents)
    ∙ ap (λ u. record k { usage = u }) (as-before k)))
    (turns-none d)
  where
    itself : (u : Usage) → is_same_usage u u ≡ true
    itself u = ap (λ b. b && (u.objects == u.objects)) ((unsigned_Decides u.used u.used).1 refl)
        ∙ (unsigned_Decides u.objects u.objects).1 refl

    stays : (share u : Usage) (b : Bool) → cond b (exchanged share share u) u ≡ u
    stays share u true = ap (λ b. cond b u (moved share share u)) (itself share)
    stays share u false = refl

    as-before : (k : StoreMeaning) → (counted_anew n (get k.state.objects n) k).usage ≡ k.usage
    as-before k = λ i e g. stays (shares_of (get k.state.objects n) e) (k.usage e g) (group_of n == g) i

module _ (d : DraftValue) (n : ℕ) (change : Living → Option Living) where
  pub none-counted : HasInode d n None
      → Turns d d (λ k. counted_anew n (get k.state.objects n) (changed_at k n change))
  none-counted has = same-counts d n (λ k. changed_at k n change) (none-turns d n change has)
      (λ s k stand represents. ap (over d n change (λ l. l) k) (lives-there d n None has s k stand represents))

  pub same-counted : (i : Inode) → HasInode d n (Some i)
      → ((beside : Beside) → change (living_of_inode beside i) ≡ None)
      → Turns d d (λ k. counted_anew n (get k.state.objects n) (changed_at k n change))
  same-counted i has is = same-counts d n (λ k. changed_at k n change) (same-turns d n change i has is)
      (λ s k stand represents. ap (over d n change (λ l. l) k) (lives-there d n (Some i) has s k stand represents)
      ∙ ap (into d n change (λ l. l) k) (is (beside_at k.state n)))

-- the share that an inode tells is that of what lives there
pub share-stands : (d : DraftValue) (n : ℕ) (i : Inode) (share : Share) → HasInode d n (Some i) → IsShareOf i share
    → (s : Store) (k : StoreMeaning) → Fits d.view s → Represents (with_writes s d.writes) k
    → (e : ℕ) → in_export share.export share.usage e ≡ shares_of (get k.state.objects n) e
share-stands d n i share has shares s k fits stands e =
    ap (λ (x : Share). in_export x.export x.usage e) shares
    ∙ ap (λ z. in_export i.export (one_using ((z + 4095) / block * block)) e)
    (sym (size-stands (with_writes s d.writes) k n i stands (stands-there d n (Some i) has s k fits stands)))
    ∙ ap (λ p. shares_of p e) (sym (lives-there d n (Some i) has s k fits stands))

-- an object that is counted no more
pub uncounted-none : (d : DraftValue) (n : ℕ) → HasInode d n None → Turns d d (uncounted n)
uncounted-none d n has =
    turns-as d d (λ k. k) (uncounted n) (λ s k stand represents.
    sym (ap (λ u. record k { usage = u }) (as-before k (lives-there d n None has s k stand represents))))
    (turns-none d)
  where
    stays : (u : Usage) (b : Bool) → cond b (exchanged no_usage no_usage u) u ≡ u
    stays u true = refl
    stays u false = refl

    group-stays : (k : StoreMeaning) → get k.state.objects n ≡ None → (e g : ℕ)
        → (uncounted n k).usage e g ≡ k.usage e g
    group-stays k lives e g =
        ap (λ p. cond (group_of n == g) (exchanged (shares_of p e) no_usage (k.usage e g)) (k.usage e g)) lives
        ∙ stays (k.usage e g) (group_of n == g)

    as-before : (k : StoreMeaning) → get k.state.objects n ≡ None → (uncounted n k).usage ≡ k.usage
    as-before k lives = λ i e g. group-stays k lives e g i

pub uncounted-some : (d mid : DraftValue) (n : ℕ) (i : Inode) (share : Share) (none : Usage) → HasInode d n (Some i)
    → IsShareOf i share → none ≡ no_usage
    → Turns d mid (counted n share.export share.usage none) → Turns d mid (uncounted n)
uncounted-some d mid n i share none has shares is counts =
    turns-as d mid (counted n share.export share.usage none) (uncounted n) (λ s k stand represents.
    ap (λ u. record k { usage = u })
    (same-shares n k.usage (in_export share.export share.usage) (in_export share.export none)
    (shares_of (get k.state.objects n)) (λ e. no_usage)
    (share-stands d n i share has shares s k stand represents)
    (λ e. ap (λ u. in_export share.export u e) is ∙ sym (no-share share.export e)))) counts

-- the same of a result that is handed on
pub uncounted-result : {A : Type 0} (d mid : DraftValue) (n : ℕ) (i : Inode) (share : Share) (none : Usage)
    (r : Result A Missing) → HasInode d n (Some i) → IsShareOf i share
    → none ≡ no_usage → MatchResult r (λ _. Turns d mid (counted n share.export share.usage none))
    (StopsAt d (addresses.Usage share.export (group_of n) ∷ []))
    → MatchResult r (λ _. Turns d mid (uncounted n)) (StopsAt d (counted_at d n))
uncounted-result d mid n i share none (Ok x) has shares is counts = uncounted-some d mid n i share none has
    shares is counts
uncounted-result d mid n i share none (Err halt) has shares is stops = usage-stops d n i share halt has shares stops

pub removed-turns : (d mid new : DraftValue) (n : ℕ) → Turns d mid (uncounted n) → Turns mid new (λ k. freed k n)
    → Turns d new (removed n)
removed-turns d mid new n counts frees =
    turns-as d new (λ k. freed (uncounted n k) n) (removed n) (λ s k stand represents.
    ap (λ u. record (freed k n) { usage = u })
    (same-shares n k.usage (shares_of (get k.state.objects n)) (λ e. no_usage)
    (shares_of (get k.state.objects n)) (shares_of (get (freed k n).state.objects n))
    (λ e. refl) (λ e. ap (λ p. shares_of p e) (sym (gone k)))))
    (turns-both d mid new (uncounted n) (λ k. freed k n) counts frees)
  where
    gone : (k : StoreMeaning) → get (freed k n).state.objects n ≡ None
    gone k = get-removed k.state.objects n n
        ∙ ap (λ b. cond b None (get k.state.objects n)) ((unsigned_Decides n n).1 refl)

pub knows-kept : (d mid : DraftValue) (n : ℕ) → KeepsInodes d mid → IsSome (known_at d (addresses.Inode n))
    → IsSome (known_at mid (addresses.Inode n))
knows-kept d mid n keeps some = subst (λ x. IsSome x) (sym (keeps.inodes n)) some

pub keeps-known : (d mid : DraftValue) (n : ℕ) (i : Option Inode) → HasInode d n i → KeepsInodes d mid
    → IsSome (known_at mid (addresses.Inode n))
keeps-known d mid n i has keeps = subst (λ x. IsSome x) (sym (keeps.inodes n ∙ has.known)) refl

-- the inode keeps its generation
pub keeps-generation : (d mid : DraftValue) (n : ℕ) (i : Inode) (generation : ℕ) → HasInode d n (Some i)
    → KeepsInodes d mid → generation ≡ i.generation
    → MayGive mid n generation
keeps-generation d mid n i generation has keeps is = inl (i, keeps.inodes n ∙ known-inode d n i has, sym is)

-- a new object, once its directory has its name and it is counted
pub made-turns : (old mid late new : DraftValue) (f : StoreMeaning → StoreMeaning) (r : Reserved) (i : Inode)
    (o : Living)
    (links parent export : ℕ) (after : Usage) → Turns old mid f
    → ((k : StoreMeaning) → (f k).state.exports ≡ k.state.exports) → ShowsExport old o.export
    → Turns mid late (recounted r.number (in_export export no_usage) (in_export export after))
    → new ≡ with_written late (addresses.Inode r.number) (Some (objects.Inode i))
    → ((s : Store) → Fits old.view s → (with_writes s late.writes).at (addresses.Inode r.number) ≡ None)
    → pages_of (Some (objects.Inode i)) ≡ no_bits → IfSome (entry_map_in i.content) (λ m. m ≡ no_entries m.key)
    → living_alone i ≡ o → i.links ≡ links → parent_in i.content ≡ parent → IsFitting r.number i
    → export ≡ o.export → after ≡ one_using (used_of o.content)
    → Turns old new (λ k. counted_anew r.number None (with_new (f k) r.number o links parent))
made-turns old mid late new f r i o links parent export after turns stay live counts is vacant none bare lives linked
    under fits exported uses =
    turns-as old new (λ k. with_new (counted r.number export no_usage after (f k)) r.number o links parent)
    (λ k. counted_anew r.number None (with_new (f k) r.number o links parent))
    (λ s k stand represents.
    ap (λ u. record (with_new (f k) r.number o links parent) { usage = u })
    (same-shares r.number (f k).usage (in_export export no_usage) (in_export export after) (shares_of None)
    (shares_of (get (with_object (f k).state r.number o).objects r.number))
    (λ e. sym (no-share export e))
    (λ e. ap (λ x. in_export x after e) exported ∙ ap (λ u. in_export o.export u e) uses
    ∙ ap (λ p. shares_of p e) (sym (put-there (f k).state r.number o)))))
    (put-new-turns old late new (λ k. counted r.number export no_usage after (f k)) r i o links parent
    (turns-both old mid late f (counted r.number export no_usage after) turns counts) stay live is vacant none
    bare lives
    linked under fits)

-- the number may be given, as it might before
pub may-give : (old new : DraftValue) (r : Reserved) (generation : ℕ) → new.view ≡ old.view → IsFirst old r
    → generation ≡ r.generation → MayGive new r.number generation
may-give old new r generation same first is =
    inr (
      0,
      ap (λ (v : ViewValue). slice_get v.reserved 0) same ∙ first.first
          ∙ ap (λ g. Some (record { number = r.number; generation = g })) (sym is),
    )
