-- What stands at a number is what lives there.
use Rattle.std.proofs.Common.{◌≡◌, ℕ, true, List, [], Option, Some, None, Ok, option_map, refl, sym, ◌∙◌}
use Rattle.std.proofs.Common.{ap, subst, ◌+◌, ◌*◌, ◌/◌}
use Rattle.std.specs.FinMap.{get}
use Rattle.nfs_wire.specs.declared.attributes.Attributes.{Attributes}
use Rattle.nfs_wire.specs.declared.attributes.FileType.TheVariants as types
use Rattle.nfs_machine.specs.Attributes.{attributes_of, block, device_of, is_directory, links_of, size_of, type_of}
use Rattle.nfs_machine.specs.Checks.{bytes_in, entries_in}
use Rattle.nfs_machine.specs.Exports.{LivingExport}
use Rattle.nfs_machine.specs.Shown.{attributes_at, weak}
use Rattle.nfs_machine.specs.State.{Content, Regular, Directory, Link, BlockDevice, CharacterDevice, Socket, Fifo}
use Rattle.nfs_machine.specs.State.{Living, State, Entry}
use Rattle.nfs_objects.proofs.StandsInExportLemmas.{inode-stands, object-stands}
use Rattle.nfs_objects.proofs.FileStoreLemmas.{HasListing, size-stands}
use Rattle.nfs_objects.proofs.SeenLemmas.{known-stands}
use Rattle.nfs_objects.proofs.TurnsLemmas.{listing-same}
use Rattle.nfs_objects.specs.Asks.{IsThere}
use Rattle.nfs_objects.specs.Fits.{Fits}
use Rattle.nfs_objects.specs.Knows.{Knows, Possible, Shows, ShowsExport}
use Rattle.nfs_objects.specs.Stands.{StoreMeaning, Represents, content_of, exports_of, inode_in, links_kept, lives_in}
use Rattle.nfs_objects.specs.Stands.{Beside, beside_at, filled, living_alone, living_of_inode, parent_kept}
use Rattle.nfs_objects.specs.Stands.{HasEntries, HoldsEntries, entries_at, entry_map_in}
use Rattle.nfs_objects.specs.Store.{Store, with_writes}
use Rattle.nfs_objects.specs.Values.{DraftValue}
use Rattle.nfs_objects.specs.declared.address.Addr.TheVariants as addresses
use Rattle.nfs_objects.specs.declared.entry_map.EntryMap.{EntryMap}
use Rattle.nfs_objects.specs.declared.object.Inode.{Inode}
use Rattle.nfs_inodes.specs.Known.{HasExports, HasInode, IsKnown, IsKnownOf, IsObject, bytes_of, content_at}
use Rattle.nfs_inodes.specs.Known.{listed, object_at, shell, weak_of}
use Rattle.nfs_inodes.specs.declared.found.Known.{Known}

-- what an inode that stands there contains
abbrev pub content_in : Option Inode → Content
content_in None = Socket
content_in (Some i) = content_of i.content

abbrev content_living : Option Living → Content
content_living o = elim o [ None ↦ Socket | Some l ↦ l.content ]

-- what does not depend on the bytes of a file, nor on the entries of a directory
pub whatever : {A : Type 0} (F : Content → A) → ((bytes more : List ℕ) → F (Regular bytes) ≡ F (Regular more)) →
    ((entries more : List Entry) (last : ℕ) → F (Directory entries last) ≡ F (Directory more last)) →
    (beside : Beside) (c : Content) → F (filled beside c) ≡ F c
whatever F bytes entries beside (Regular more) = bytes beside.bytes more
whatever F bytes entries beside (Directory more last) = entries beside.entries more last
whatever F bytes entries beside (Link text) = refl
whatever F bytes entries beside (BlockDevice device) = refl
whatever F bytes entries beside (CharacterDevice device) = refl
whatever F bytes entries beside Socket = refl
whatever F bytes entries beside Fifo = refl

-- with bytes that are as many as it tells, an inode shows the same attributes, but for the links
attributes-with : (m : State) (n links : ℕ) (beside : Beside) (i : Inode) →
    size_of (filled beside (content_of i.content)) ≡ size_of (content_of i.content) →
    record (attributes_of m n (living_of_inode beside i)) { links = links }
    ≡ record (attributes_of m n (living_alone i)) { links = links }
attributes-with m n links beside i size = λ j. record (attributes_of m n (living_alone i)) {
  kind = whatever type_of (λ b more. refl) (λ e more last. refl) beside (content_of i.content) j;
  links = links;
  size = size j;
  used = (size j + 4095) / block * block;
  device = whatever device_of (λ b more. refl) (λ e more last. refl) beside (content_of i.content) j;
}

-- the exports that are known live
pub exports-there : (d : DraftValue) (exports : List LivingExport) → HasExports d exports →
    Shows d (λ k. k.state.exports ≡ exports)
exports-there d exports has s k fits stands =
    stands.tables.exports ∙ ap exports_of (known-stands d s addresses.Exports has.object fits has.known) ∙ sym has.is

-- and so does the export of what is found
pub shows-export : (d : DraftValue) (n : ℕ) (i : Inode) → HasInode d n (Some i) → ShowsExport d i.export
shows-export d n i has s k fits stands =
    ap (λ es. lives_in es i.export) (exports-there d has.exports has.living s k fits stands)
    ∙ (inode-stands has.exports has.object i (sym has.is)).lives

pub shows-known : (d : DraftValue) (n : ℕ) (i : Inode) (x : Known) → HasInode d n (Some i) → IsKnownOf n i x →
    ShowsExport d x.export
shows-known d n i x has of = subst (ShowsExport d) (sym (ap (λ (o : Living). o.export) of.shell_is))
    (shows-export d n i has)

module _ (d : DraftValue) (n : ℕ) (i : Option Inode) (has : HasInode d n i) (s : Store) (k : StoreMeaning)
    (fits : Fits d.view s)
    (stands : Represents (with_writes s d.writes) k) where
  pub stands-there : inode_in k.state.exports ((with_writes s d.writes).at (addresses.Inode n)) ≡ i
  stands-there =
      ap (λ es. inode_in es ((with_writes s d.writes).at (addresses.Inode n)))
      (exports-there d has.exports has.living s k fits stands)
      ∙ ap (inode_in has.exports) (known-stands d s (addresses.Inode n) has.object fits has.known) ∙ sym has.is

  pub lives-there : get k.state.objects n ≡ option_map (living_of_inode (beside_at k.state n)) i
  lives-there = stands.objects.objects n ∙ ap (option_map (living_of_inode (beside_at k.state n))) stands-there

  pub contains : content_at k.state n ≡ filled (beside_at k.state n) (content_in i)
  contains = ap content_living lives-there ∙ by i
    where
      by : (j : Option Inode) → content_living (option_map (living_of_inode (beside_at k.state n)) j) ≡
          filled (beside_at k.state n) (content_in j)
      by None = refl
      by (Some j) = refl

  -- of what does not depend on the bytes of a file and the entries of a directory the inode tells by itself
  pub contains-as : {A : Type 0} (F : Content → A) → ((bytes more : List ℕ) → F (Regular bytes) ≡ F (Regular more)) →
      ((entries more : List Entry) (last : ℕ) → F (Directory entries last) ≡ F (Directory more last)) →
      F (content_at k.state n) ≡ F (content_in i)
  contains-as F bytes entries = ap F contains ∙ whatever F bytes entries (beside_at k.state n) (content_in i)

  pub links-there : k.links n ≡ links_kept i
  links-there = stands.objects.links n ∙ ap links_kept stands-there

  pub parent-there : k.parents n ≡ parent_kept i
  parent-there = stands.objects.parents n ∙ ap parent_kept stands-there

-- the pages and parts at a number are those of the entries that live there
pub listed-there : (d : DraftValue) (n : ℕ) (i : Inode) → HasInode d n (Some i) → (s : Store) (k : StoreMeaning) →
    Fits d.view s → Represents (with_writes s d.writes) k
    → HasListing (with_writes s d.writes) n (entries_at k.state n) i
listed-there d n i has s k fits stands =
    listing-same (with_writes s d.writes) k n i i stands
    (known-stands d s (addresses.Inode n) has.object fits has.known
    ∙ (inode-stands has.exports has.object i (sym has.is)).stands)
    (stands-there d n (Some i) has s k fits stands) refl

pub entries-there : (d : DraftValue) (n : ℕ) (i : Inode) (m : EntryMap) → HasInode d n (Some i) →
    entry_map_in i.content ≡ Some m → (s : Store) (k : StoreMeaning) → Fits d.view s
    → Represents (with_writes s d.writes) k →
    HasEntries (with_writes s d.writes) n m (entries_at k.state n)
entries-there d n i m has is s k fits stands =
    subst (λ x. HoldsEntries (with_writes s d.writes) n x (entries_at k.state n)) is
    (listed-there d n i has s k fits stands)

pub some-lives : (d : DraftValue) (n : ℕ) (i : Inode) (x : Known) → HasInode d n (Some i) → IsKnownOf n i x
    → Knows d (λ k. IsObject k.state n (Some x))
some-lives d n i x has of s k w =
    let beside = beside_at k.state n in
    let living = living_of_inode beside i in
    let lives : get k.state.objects n ≡ Some living = lives-there d n (Some i) has s k w.fits w.stands in
    let content : content_at k.state x.number ≡ living.content = ap (content_at k.state) of.number_is
    ∙ ap content_living lives in
    let same : object_at k.state x ≡ living =
    ap (shell x) content ∙ ap (λ (o : Living). record o { content = living.content }) of.shell_is in
    let size = size-stands (with_writes s d.writes) k n i w.stands (stands-there d n (Some i) has s k w.fits
    w.stands) in
    let links : i.links ≡ links_of k.state n living.content =
    sym (links-there d n (Some i) has s k w.fits w.stands) ∙ w.sound.links n living lives in (
      of.number_is,
      record {
        lives = ap (get k.state.objects) of.number_is ∙ lives ∙ ap (λ o. Some o) (sym same);
        shows = of.attributes_are k.state
            ∙ sym (attributes-with k.state n i.links beside i size)
            ∙ ap (λ l. record (attributes_of k.state n living) { links = l }) links
            ∙ ap (λ q. attributes_of k.state q living) (sym of.number_is)
            ∙ ap (attributes_of k.state x.number) (sym same);
      },
    )

pub none-lives : (d : DraftValue) (n : ℕ) → HasInode d n None → Knows d (λ k. IsObject k.state n None)
none-lives d n has s k w = lives-there d n None has s k w.fits w.stands

-- what an object shows of itself
pub shown-some : (m : State) (n : ℕ) (x : Known) → IsObject m n (Some x) → attributes_at m n ≡ Some x.attributes
shown-some m n x is =
    ap (attributes_at m) (sym is.0) ∙ ap (λ o. option_map (attributes_of m x.number) o) (is.1).lives
    ∙ ap (λ a. Some a) (sym (is.1).shows)

pub shown-none : (m : State) (n : ℕ) → IsObject m n None → attributes_at m n ≡ None
shown-none m n is = ap (λ o. option_map (attributes_of m n) o) is

-- a draft with no write stands on the store itself
pub possible : (d : DraftValue) (s : Store) (k : StoreMeaning) → d.writes ≡ [] → Possible d s k → Represents s k
possible d s k none w = subst (λ ws. Represents (with_writes s ws) k) none w.stands

pub known-lives : (d : DraftValue) (x : Known) → d.writes ≡ [] → Knows d (λ k. IsKnown k.state x)
    → IsThere d.view (addresses.Inode x.number)
known-lives d x none is s k fits stands sound formed =
    let w : Possible d s k = record {
      fits = fits;
      stands = subst (λ ws. Represents (with_writes s ws) k) (sym none)
          stands;
      sound = sound;
    } in
    object-stands s k x.number (object_at k.state x) stands (is s k w).lives

-- what the machine shows of an object before a call
pub weak-is : (m : State) (x : Known) → IsKnown m x → weak (object_at m x) ≡ weak_of x
weak-is m x is = ap (λ (a : Attributes). record {
  size = a.size;
  modified = x.attributes.modified;
  changed = x.attributes.changed;
}) (sym is.shows)

-- ---- kinds
pub kind-is : (m : State) (x : Known) → IsKnown m x → type_of (content_at m x.number) ≡ x.attributes.kind
kind-is m x is = ap (λ (a : Attributes). a.kind) (sym is.shows)

pub directory-listed : (c : Content) → type_of c ≡ types.Directory → entries_in c ≡ Ok (listed c)
directory-listed (Directory entries last) e = refl
directory-listed (Regular bytes) e = cc
directory-listed (Link text) e = cc
directory-listed (BlockDevice device) e = cc
directory-listed (CharacterDevice device) e = cc
directory-listed Socket e = cc
directory-listed Fifo e = cc

pub regular-bytes : (c : Content) → type_of c ≡ types.Regular → bytes_in c ≡ Ok (bytes_of c)
regular-bytes (Regular bytes) e = refl
regular-bytes (Directory entries last) e = cc
regular-bytes (Link text) e = cc
regular-bytes (BlockDevice device) e = cc
regular-bytes (CharacterDevice device) e = cc
regular-bytes Socket e = cc
regular-bytes Fifo e = cc

pub directory-kind : (c : Content) → type_of c ≡ types.Directory → is_directory c ≡ true
directory-kind (Directory entries last) e = refl
directory-kind (Regular bytes) e = cc
directory-kind (Link text) e = cc
directory-kind (BlockDevice device) e = cc
directory-kind (CharacterDevice device) e = cc
directory-kind Socket e = cc
directory-kind Fifo e = cc
