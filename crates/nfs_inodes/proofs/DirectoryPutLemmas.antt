-- Directories whose pages and parts were written: their inode is put, and the store stands for the directory with the
-- entries that it has then.
use Rattle.std.proofs.Common.{◌≡◌, ℕ, ◌≤◌, ◌/◌, ◌%◌, List, Option, Some, None, IsSome, refl, sym, ◌∙◌, ap, subst}
use Rattle.nfs_machine.specs.State.{Entry, Living}
use Rattle.nfs_objects.proofs.FileStoreLemmas.{HasContent, HasListing, stands-but}
use Rattle.nfs_objects.proofs.SeenLemmas.{known-stands, writes-append}
use Rattle.nfs_objects.proofs.TurnsLemmas.{put-stands}
use Rattle.nfs_objects.specs.Bits.{has, no_bits}
use Rattle.nfs_objects.specs.Edits.{with_living}
use Rattle.nfs_objects.specs.Fits.{Fits}
use Rattle.nfs_objects.specs.Knows.{Turns}
use Rattle.nfs_objects.specs.Stands.{Beside, HasBlocks, HasEntries, HoldsEntries, IsFitting, IsMapped, IsStored}
use Rattle.nfs_objects.specs.Stands.{StoreMeaning}
use Rattle.nfs_objects.specs.Stands.{Represents}
use Rattle.nfs_objects.specs.Stands.{beside_at, entries_at, entry_map_in}
use Rattle.nfs_objects.specs.Stands.{lives_in, living_of_inode, map_in, map_of, pages_of, parent_in}
use Rattle.nfs_objects.specs.Store.{Store, with_write, with_writes}
use Rattle.nfs_objects.specs.Unfiled.{KeepsBlocks, Relists, RepresentsBut}
use Rattle.nfs_objects.specs.Values.{DraftValue, with_written}
use Rattle.nfs_objects.specs.declared.address.Addr.TheVariants as addresses
use Rattle.nfs_objects.specs.declared.entry_map.EntryMap.{EntryMap}
use Rattle.nfs_objects.specs.declared.object.Content.{Content}
use Rattle.nfs_objects.specs.declared.object.Content.TheVariants as contents
use Rattle.nfs_objects.specs.declared.object.Inode.{Inode}
use Rattle.nfs_objects.specs.declared.object.Object.TheVariants as objects
use Rattle.nfs_inodes.proofs.PutObjectLemmas.{known-inode}
use Rattle.nfs_inodes.proofs.KeptBesideLemmas.{changed-is}
use Rattle.nfs_inodes.proofs.StandsLemmas.{entries-there, links-there, lives-there, parent-there, shows-export}
use Rattle.nfs_inodes.specs.Makes.{changed_with}
use Rattle.nfs_inodes.specs.Known.{HasInode}
use Rattle.nfs_objects.proofs.LocksStandLemmas.{keeps-same}

-- what has a map of entries has no map of blocks
pub no-map : (c : Content) (m : EntryMap) → entry_map_in c ≡ Some m → map_in c ≡ None
no-map (contents.Regular map) m is = cc
no-map (contents.Directory directory) m is = refl
no-map (contents.Link text) m is = cc
no-map (contents.BlockDevice device) m is = cc
no-map (contents.CharacterDevice device) m is = cc
no-map contents.Socket m is = cc
no-map contents.Fifo m is = cc

-- so where it stands, no map and no block does, also once pages and parts were written
listed-blank : (s t : Store) (n : ℕ) (i j : Inode) (before after : EntryMap) → KeepsBlocks s t →
    s.at (addresses.Inode n) ≡ Some (objects.Inode i) → entry_map_in i.content ≡ Some before →
    entry_map_in j.content ≡ Some after → HasBlocks s n (pages_of (s.at (addresses.Inode n))) →
    HasBlocks t n (pages_of (Some (objects.Inode j)))
listed-blank s t n i j before after keeps at was is blocks =
    let none : pages_of (s.at (addresses.Inode n)) ≡ pages_of (Some (objects.Inode j)) =
    ap pages_of at
    ∙ ap (λ m. elim m [ None ↦ no_bits | Some map ↦ map.pages ])
    (no-map i.content before was ∙ sym (no-map j.content after is)) in
    record {
      maps = λ page. subst (λ o. IsMapped (has (pages_of (Some (objects.Inode j))) page) o) (sym (keeps.maps n page))
          (subst (λ b. IsMapped (has b page) (s.at (addresses.Map n page))) none (blocks.maps page));
      blocks = λ i. subst (λ o. IsStored (has (map_of o) (i % 512)) (t.at (addresses.Block n i)))
          (sym (keeps.maps n (i / 512)))
          (subst (IsStored (has (map_of (s.at (addresses.Map n (i / 512)))) (i % 512))) (sym (keeps.blocks n i))
          (blocks.blocks i));
    }

module _ (d laid : DraftValue) (n : ℕ) (i j : Inode) (before after : EntryMap) (change : List Entry → List Entry)
    (Asked : List Entry → Type 0) (relists : Relists n d laid before after change Asked) (found : HasInode d n (Some i))
    (was : entry_map_in i.content ≡ Some before) (is : entry_map_in j.content ≡ Some after) where
  -- what is beside it then
  abbrev pub beside_then : StoreMeaning → Beside
  beside_then k = record (beside_at k.state n) { entries = change (entries_at k.state n) }

  -- the draft with its inode
  pub listing-turns : (op : StoreMeaning → StoreMeaning)
      → ((s : Store) (k : StoreMeaning) → Fits d.view s → Represents (with_writes s d.writes) k
      → Asked (entries_at k.state n))
      → ((s : Store) (k : StoreMeaning) → Fits d.view s → Represents (with_writes s d.writes) k →
      op k ≡ with_living k n (living_of_inode (beside_then k) j) j.links (parent_in j.content))
      → j.export ≡ i.export → j.generation ≡ i.generation → IsFitting n j
      → Turns d (with_written laid (addresses.Inode n) (Some (objects.Inode j))) op
  listing-turns op asked same exported generation fitting = record {
    ctx = relists.enters.ctx;
    view = relists.enters.view;
    modes = relists.enters.modes;
    messages = relists.enters.messages;
    turns = λ s k fits stands.
        let t : Store = with_writes s laid.writes in
        let but : RepresentsBut n t k =
        relists.enters.lays s k (stands-but n (with_writes s d.writes) k stands) in
        let stood : (with_writes s d.writes).at (addresses.Inode n) ≡ Some (objects.Inode i) =
        known-stands d s (addresses.Inode n) (Some (objects.Inode i)) fits (known-inode d n i found) in
        let at : t.at (addresses.Inode n) ≡ Some (objects.Inode i) = relists.enters.inodes s n ∙ stood in
        let lists : HasEntries t n after (change (entries_at k.state n)) =
        relists.lists s (entries_at k.state n) fits (asked s k fits stands)
        (entries-there d n i before found was s k fits stands) in
        let listing : HasListing t n (change (entries_at k.state n)) j =
        subst (λ m. HoldsEntries t n m (change (entries_at k.state n))) (sym is) lists in
        let content : HasContent t n (beside_then k).bytes j =
        λ map file. absurd (let none : map_in j.content ≡ None = no-map j.content after is in cc) in
        let put = put-stands t k n j (beside_then k) but
        (listed-blank (with_writes s d.writes) t n i j before after (relists.enters.blocks s) stood was is
        (stands.files.blocks n)) content listing
        (subst (λ g. g ≤ t.last n) (sym generation) (but.objects.given n i at)) fitting
        (ap (lives_in k.state.exports) exported ∙ shows-export d n i found s k fits stands)
        (keeps-same t n i j at exported
        (λ some. (let no = subst (λ o. IsSome o) (no-map i.content before was) some in absurd cc))) in
        subst (λ (x : Store). Represents x (op k))
        (sym (writes-append laid.writes s (addresses.Inode n) (Some (objects.Inode j))))
        (subst (Represents (with_write t (addresses.Inode n) (Some (objects.Inode j))))
        (sym (same s k fits stands)) put);
  }

  -- so it is with a change of what lives there that is the inode with its new entries
  pub listed-turns : (f : Living → Option Living) (links : ℕ → ℕ)
      → ((s : Store) (k : StoreMeaning) → Fits d.view s → Represents (with_writes s d.writes) k
      → Asked (entries_at k.state n))
      → ((beside : Beside) → Asked beside.entries → f (living_of_inode beside i) ≡
      Some (living_of_inode (record beside { entries = change beside.entries }) j))
      → j.links ≡ links i.links → parent_in j.content ≡ parent_in i.content → j.export ≡ i.export
      → j.generation ≡ i.generation → IsFitting n j
      → Turns d (with_written laid (addresses.Inode n) (Some (objects.Inode j)))
      (λ k. changed_with k n (links (k.links n)) f)
  listed-turns f links asked becomes linked under =
      listing-turns (λ k. changed_with k n (links (k.links n)) f) asked (λ s k fits stands.
      let o : Living = living_of_inode (beside_then k) j in
      changed-is k n (links (k.links n)) f (living_of_inode (beside_at k.state n) i) o
      (lives-there d n (Some i) found s k fits stands) (becomes (beside_at k.state n) (asked s k fits stands))
      ∙ ap (λ l. with_living k n o l (k.parents n)) (ap links (links-there d n (Some i) found s k fits stands)
      ∙ sym linked)
      ∙ ap (λ p. with_living k n o j.links p) (parent-there d n (Some i) found s k fits stands ∙ sym under))
