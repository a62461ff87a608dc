-- Files whose blocks and maps were written: their inode is put, or goes, and the store stands for the file with its new
-- bytes, or without it.
use Rattle.std.proofs.Common.{◌≡◌, ◌⊎◌, true, false, ℕ, ◌+◌, ◌-◌, ◌*◌, ◌/◌, ◌<◌, ◌≤◌, min, max, length, drop, List, []}
use Rattle.std.proofs.Common.{Some, None, IsSome, inl, inr, refl, sym, ◌∙◌, ap, subst, arith, ◌%◌}
use Rattle.std.proofs.lemmas.Bool.{cases_eq, cases_lt}
use Rattle.std.proofs.lemmas.List.{length-drop, length-take}
use Rattle.std.specs.FinMap.{get}
use Rattle.nfs_wire.specs.declared.attributes.Time.{Time}
use Rattle.nfs_machine.specs.Attributes.{block}
use Rattle.nfs_machine.specs.Data.{written}
use Rattle.nfs_machine.specs.Shown.{with_object}
use Rattle.nfs_machine.specs.State.{Entry, Living}
use Rattle.nfs_machine.specs.Times.{touch}
use Rattle.nfs_objects.proofs.ContentLemmas.{content-written, place, window}
use Rattle.nfs_objects.proofs.FileStoreLemmas.{HasContent, stands-but}
use Rattle.nfs_objects.proofs.PromiseLemmas.{turns-both}
use Rattle.nfs_objects.proofs.SeenLemmas.{known-stands, writes-append}
use Rattle.nfs_objects.proofs.TurnsLemmas.{free-stands, put-stands}
use Rattle.nfs_objects.specs.Bits.{has, no_bits}
use Rattle.nfs_objects.specs.Edits.{counted_anew, freed, recounted, with_living}
use Rattle.nfs_objects.specs.Sums.{in_export, one_using, shares_of}
use Rattle.nfs_objects.specs.declared.usage.Usage.{Usage}
use Rattle.nfs_objects.specs.FileMaps.{FileMapValue, IsContent, block_size}
use Rattle.nfs_objects.specs.Drafts.{MayChange, MayGive}
use Rattle.nfs_objects.specs.Fits.{Fits}
use Rattle.nfs_objects.specs.Knows.{Turns}
use Rattle.nfs_objects.specs.Stands.{Beside, HasBlocks, HoldsEntries, IsFitting, StoreMeaning, Represents}
use Rattle.nfs_objects.specs.Stands.{StandDirectories}
use Rattle.nfs_objects.specs.Stands.{beside_at}
use Rattle.nfs_objects.specs.Stands.{bytes_at, entry_map_in, entry_map_of, lives_in, living_of_inode}
use Rattle.nfs_objects.specs.Stands.{filed_in, map_in, parent_in, stored_in}
use Rattle.nfs_objects.specs.Modes.{held_mode}
use Rattle.nfs_objects.specs.Store.{Store, with_write, with_writes}
use Rattle.nfs_objects.specs.Unfiled.{Enters, KeepsEntries, Lays, RepresentsBut}
use Rattle.nfs_objects.specs.Values.{DraftValue, known_at, with_written}
use Rattle.nfs_objects.specs.declared.bits.Bits.{Bits}
use Rattle.nfs_objects.specs.declared.address.Addr.{Addr}
use Rattle.nfs_objects.specs.declared.address.Addr.TheVariants as addresses
use Rattle.nfs_objects.specs.declared.object.Content.TheVariants as contents
use Rattle.nfs_objects.specs.declared.object.Inode.{Inode}
use Rattle.nfs_objects.specs.declared.object.Object.TheVariants as objects
use Rattle.nfs_inodes.proofs.KeptBesideLemmas.{changed-is, put-there}
use Rattle.nfs_inodes.proofs.PutObjectLemmas.{counted, has-kept, known-inode, same-shares, share-stands, turns-as}
use Rattle.nfs_inodes.proofs.PutObjectLemmas.{with-bytes}
use Rattle.nfs_inodes.proofs.StandsLemmas.{links-there, lives-there, parent-there, shows-export}
use Rattle.nfs_inodes.proofs.ReadBlocksLemmas.{content-there, filed-stored}
use Rattle.nfs_inodes.specs.Blocks.{HasMap, WritesRange, end_of, first_of}
use Rattle.nfs_inodes.specs.Kinds.{HasFile}
use Rattle.nfs_inodes.specs.Known.{HasInode}
use Rattle.nfs_inodes.specs.Counts.{IsShareOf, KeepsInodes}
use Rattle.nfs_inodes.specs.Makes.{bytes_changed, changed_at, with_bytes}
use Rattle.nfs_inodes.specs.declared.usage.Share.{Share}
use Rattle.nlm_ranges.specs.Buckets.{bucket_count, file_in}
use Rattle.nfs_objects.proofs.LocksStandLemmas.{keeps-same}
use Rattle.nfs_objects.specs.Stands.{bucket_at}
use Rattle.nfs_inodes.specs.Locks.{HasNone}

-- where a file stands, no page and no part does, also once its blocks and maps were written
pub file-bare : (s t : Store) (k : StoreMeaning) (n : ℕ) (i : Inode) (map : FileMapValue) → KeepsEntries s t →
    s.at (addresses.Inode n) ≡ Some (objects.Inode i) → i.content ≡ contents.Regular map → StandDirectories s k →
    (entries : List Entry) → HoldsEntries t n None entries
file-bare s t k n i map keeps at is stand entries =
    let none : HoldsEntries s n None (stand n).entries =
    subst (λ c. HoldsEntries s n (entry_map_in c) (stand n).entries) is
    (subst (λ o. HoldsEntries s n (entry_map_of o) (stand n).entries) at (stand n).holds) in
    (λ page. keeps.pages n page ∙ none.0 page, λ bucket part. keeps.parts n bucket part ∙ none.1 bucket part)

module _ (d laid : DraftValue) (n : ℕ) (i : Inode) (has : HasInode d n (Some i)) (lays : Lays n d laid) where
  -- the draft with another inode of the file
  pub file-turns : (map after : FileMapValue) (now : Time) (change : List ℕ → List ℕ) →
      let j : Inode = record i
      { content = contents.Regular after; modified = touch i.changed now; changed = touch i.changed now } in
      i.content ≡ contents.Regular map
      → ((s : Store) (k : StoreMeaning) → Fits d.view s → Represents (with_writes s d.writes) k →
      HasBlocks (with_writes s laid.writes) n after.pages)
      → ((s : Store) (k : StoreMeaning) → Fits d.view s → Represents (with_writes s d.writes) k →
      IsContent after.size (λ b. filed_in after b ((with_writes s laid.writes).at (addresses.Block n b)))
      (change (bytes_at k.state n)))
      → IsFitting n j
      → Turns d (with_written laid (addresses.Inode n) (Some (objects.Inode j)))
      (λ k. changed_at k n (with_bytes now change))
  file-turns map after now change was blocks content fitting = record {
    ctx = lays.ctx;
    view = lays.view;
    modes = lays.modes;
    messages = lays.messages;
    turns = λ s k fits stands.
        let beside : Beside = beside_at k.state n in
        let changed : Beside = record beside { bytes = change beside.bytes } in
        let t : Store = with_writes s laid.writes in
        let but : RepresentsBut n t k = lays.lays s k (stands-but n (with_writes s d.writes) k stands) in
        let stood : (with_writes s d.writes).at (addresses.Inode n) ≡ Some (objects.Inode i) =
        known-stands d s (addresses.Inode n) (Some (objects.Inode i)) fits (known-inode d n i has) in
        let at : t.at (addresses.Inode n) ≡ Some (objects.Inode i) = lays.inodes s n ∙ stood in
        let lives : lives_in k.state.exports i.export ≡ true = shows-export d n i has s k fits stands in
        let has-content : HasContent t n changed.bytes j =
        λ m is. subst (λ (x : FileMapValue). IsContent x.size (λ b. filed_in x b (t.at (addresses.Block n b)))
        changed.bytes)
        (let e : after ≡ m = cc in e) (content s k fits stands) in
        let put = put-stands t k n j changed but (blocks s k fits stands) has-content
        (file-bare (with_writes s d.writes) t k n i map (lays.entries s) stood was stands.directories changed.entries)
        (but.objects.given n i at) fitting lives (keeps-same t n i j at refl (λ some. refl)) in
        let links : k.links n ≡ i.links = links-there d n (Some i) has s k fits stands in
        let parent : k.parents n ≡ parent_in j.content =
        parent-there d n (Some i) has s k fits stands ∙ ap parent_in was in
        let same : changed_at k n (with_bytes now change) ≡
        with_living k n (living_of_inode changed j) j.links (parent_in j.content) =
        changed-is k n (k.links n) (with_bytes now change) (living_of_inode beside i) (living_of_inode changed j)
        (lives-there d n (Some i) has s k fits stands) (with-bytes i map after beside now change was)
        ∙ ap (λ l. with_living k n (living_of_inode changed j) l (k.parents n)) links
        ∙ ap (λ p. with_living k n (living_of_inode changed j) i.links p) parent in
        subst (λ (x : Store). Represents x (changed_at k n (with_bytes now change)))
        (sym (writes-append laid.writes s (addresses.Inode n) (Some (objects.Inode j))))
        (subst (Represents (with_write t (addresses.Inode n) (Some (objects.Inode j)))) (sym same) put);
  }
    where
      j : Inode
      j = record i { content = contents.Regular after; modified = touch i.changed now; changed = touch i.changed now }

-- what may be changed before blocks and maps of a file are written may be changed then
pub laid-change : (n : ℕ) (d laid : DraftValue) → Lays n d laid → (a : Addr) → MayChange d a → MayChange laid a
laid-change n d laid lays a may =
    (λ j. held_mode (lays.modes j) (lays.view j) a) ∙ may

-- what lives at a number goes, once no block and no map of it is there, and then no page and no part
pub gone-turns : (d cut laid : DraftValue) (n : ℕ) → Lays n d cut → Enters n cut laid
    → ((s : Store) (k : StoreMeaning) → Fits d.view s → Represents (with_writes s d.writes) k →
    HasBlocks (with_writes s laid.writes) n no_bits × HoldsEntries (with_writes s laid.writes) n None [])
    → HasNone d n → Turns d (with_written laid (addresses.Inode n) None) (λ k. freed k n)
gone-turns d cut laid n lays enters bare unlocked = record {
  ctx = enters.ctx ∙ lays.ctx;
  view = enters.view ∙ lays.view;
  modes = enters.modes ∙ lays.modes;
  messages = enters.messages ∙ lays.messages;
  turns = λ s k fits stands.
      let none = bare s k fits stands in
      subst (λ (x : Store). Represents x (freed k n)) (sym (writes-append laid.writes s (addresses.Inode n) None))
      (free-stands (with_writes s laid.writes) k n
      (enters.lays s k (lays.lays s k (stands-but n (with_writes s d.writes) k stands))) none.0 none.1
      (ap (λ o. file_in (bucket_at o) n) (enters.locks s (n % bucket_count) ∙ lays.locks s (n % bucket_count))
      ∙ unlocked s k fits stands));
}

-- ---- once the group of a file is counted anew
module _ (d mid laid : DraftValue) (n : ℕ) (i : Inode) (map after : FileMapValue) (now : Time)
    (change : List ℕ → List ℕ) where
  abbrev put : Inode
  put = record i { content = contents.Regular after; modified = touch i.changed now; changed = touch i.changed now }

  pub written-turns : (share : Share) (uses : Usage) (new : DraftValue) (j : Inode) → HasInode d n (Some i)
      → i.content ≡ contents.Regular map → Lays n mid laid
      → ((s : Store) (k : StoreMeaning) → Fits mid.view s → Represents (with_writes s mid.writes) k →
      HasBlocks (with_writes s laid.writes) n after.pages)
      → ((s : Store) (k : StoreMeaning) → Fits mid.view s → Represents (with_writes s mid.writes) k →
      IsContent after.size (λ b. filed_in after b ((with_writes s laid.writes).at (addresses.Block n b)))
      (change (bytes_at k.state n)))
      → j ≡ put → IsShareOf i share → uses ≡ one_using ((after.size + 4095) / block * block)
      → Turns d mid (recounted n (in_export share.export share.usage) (in_export share.export uses))
      → KeepsInodes d mid → new ≡ with_written laid (addresses.Inode n) (Some (objects.Inode j)) → IsFitting n j
      → Turns d new (bytes_changed now n change)
  written-turns share uses new j has was lays blocks content made shares used counts keeps put-is fits =
      turns-as d new (λ k. changed_at (counted n share.export share.usage uses k) n (with_bytes now change))
      (bytes_changed now n change) (λ s k stand represents.
      let beside : Beside = beside_at k.state n in
      let file : Living = living_of_inode (record beside { bytes = change beside.bytes }) put in
      let lives : get k.state.objects n ≡ Some (living_of_inode beside i) = lives-there d n (Some i) has s k stand
      represents in
      let changed = with-bytes i map after beside now change was in
      let length-is : length (change beside.bytes) ≡ after.size =
      (content s (counted n share.export share.usage uses k) (subst (λ v. Fits v s) (sym counts.view) stand)
      (counts.turns s k stand represents)).counted in
      changed-is (counted n share.export share.usage uses k) n (k.links n) (with_bytes now change)
      (living_of_inode beside i)
      file lives changed
      ∙ ap (λ u. record (with_living k n file (k.links n) (k.parents n)) { usage = u })
      (same-shares n k.usage (in_export share.export share.usage) (in_export share.export uses)
      (shares_of (get k.state.objects n)) (shares_of (get (with_object k.state n file).objects n))
      (share-stands d n i share has shares s k stand represents)
      (λ e. ap (λ (x : Share). in_export x.export uses e) shares ∙ ap (λ u. in_export i.export u e) used
      ∙ ap (λ z. in_export i.export (one_using ((z + 4095) / block * block)) e) (sym length-is)
      ∙ ap (λ p. shares_of p e) (sym (put-there k.state n file))))
      ∙ ap (λ (q : StoreMeaning). counted_anew n (get k.state.objects n) q)
      (sym (changed-is k n (k.links n) (with_bytes now change) (living_of_inode beside i) file lives changed)))
      (turns-both d mid new (counted n share.export share.usage uses)
      (λ k. changed_at k n (with_bytes now change)) counts
      (subst (λ (x : DraftValue). Turns mid x (λ k. changed_at k n (with_bytes now change)))
      (sym (put-is ∙ ap (λ x. with_written laid (addresses.Inode n) (Some (objects.Inode x))) made))
      (file-turns mid laid n i (has-kept d mid n (Some i) keeps has) lays map after now change was blocks content
      (subst (IsFitting n) made fits))))

-- ---- what makers of files know once the group is counted
pub file-map : (d mid : DraftValue) (n : ℕ) (i : Inode) (map : FileMapValue) → HasFile d n i map → KeepsInodes d mid →
    HasMap mid n map
file-map d mid n i map has keeps = record {
  inode = i;
  stands = has-kept d mid n (Some i) keeps has.inode;
  content = ap map_in has.content;
}

pub laid-generation : (d mid laid : DraftValue) (n : ℕ) (i : Inode) (generation : ℕ) → HasInode d n (Some i) →
    KeepsInodes d mid → known_at laid (addresses.Inode n) ≡ known_at mid (addresses.Inode n) → generation ≡
    i.generation →
    MayGive laid n generation
laid-generation d mid laid n i generation has keeps laid-is is =
    inl (i, laid-is ∙ keeps.inodes n ∙ known-inode d n i has, sym is)

pub laid-known : (d mid laid : DraftValue) (n : ℕ) (i : Inode) → HasInode d n (Some i) → KeepsInodes d mid →
    known_at laid (addresses.Inode n) ≡ known_at mid (addresses.Inode n) → IsSome (known_at laid (addresses.Inode n))
laid-known d mid laid n i has keeps laid-is =
    subst (λ x. IsSome x) (sym (laid-is ∙ keeps.inodes n ∙ known-inode d n i has)) refl

-- the inode that is put, made of a copy
pub put-made : (i copy j : Inode) (at now : Time) (made after : FileMapValue) →
    j ≡ record copy
    { content = contents.Regular made; modified = touch copy.changed at; changed = touch copy.changed at } →
    at ≡ now → copy ≡ i → made ≡ after →
    j ≡ record i { content = contents.Regular after; modified = touch i.changed now; changed = touch i.changed now }
put-made i copy j at now made after is when same new =
    is ∙ (λ k. record (same k) {
      content = contents.Regular (new k);
      modified = touch (same k).changed (when k);
      changed = touch (same k).changed (when k);
    })

-- ---- bytes that are written
pub range-content : (mid laid : DraftValue) (n : ℕ) (map : FileMapValue) (offset size : ℕ) (more : List ℕ)
    (pages : Bits) →
    HasMap mid n map → WritesRange mid laid n offset more pages → 0 < length more → length more ≤ 65536 →
    has map.remains (first_of offset / 512) ≡ false
    → has map.remains ((end_of offset (length more) - 1) / 512) ≡ false →
    size ≡ max map.size (offset + length more) → (s : Store) (k : StoreMeaning) → Fits mid.view s →
    Represents (with_writes s mid.writes) k →
    IsContent size (λ b. filed_in (record { size = size; pages = pages; remains = map.remains }) b
    ((with_writes s laid.writes).at (addresses.Block n b)))
    (written (bytes_at k.state n) offset more)
range-content mid laid n map offset size more pages there-map writes some few front back is s k fits stands =
    subst (λ z. IsContent z (λ b. filed_in map b ((with_writes s laid.writes).at (addresses.Block n b)))
    (written (bytes_at k.state n) offset more)) (sym is)
    (content-written map.size (λ b. filed_in map b ((with_writes s mid.writes).at (addresses.Block n b)))
    (bytes_at k.state n)
    (content-there mid n map there-map s k fits stands) offset more
    (λ b. filed_in map b ((with_writes s laid.writes).at (addresses.Block n b)))
    (λ i none. ap (filed_in map i) (writes.others s i (outside i none)))
    (λ i there.
    let off = counted i (inside i there).0 (inside i there).1 in
    filed-stored map i ((with_writes s laid.writes).at (addresses.Block n i)) off
    ∙ ap stored_in (writes.blocks s i fits (inside i there).0 (inside i there).1)
    ∙ ap (λ b. written b (place offset i) (window offset more i))
    (sym (filed-stored map i ((with_writes s mid.writes).at (addresses.Block n i)) off))))
  where
    -- the range lies in its first map page and in its last one
    counted : (i : ℕ) → first_of offset ≤ i → i < end_of offset (length more) → has map.remains (i / 512) ≡ false
    counted i from before = elim (cases_eq (i / 512) (first_of offset / 512)) [
      | inl same ↦ ap (has map.remains) same ∙ front
      | inr other ↦
          let same : i / 512 ≡ (end_of offset (length more) - 1) / 512 = omega
          (arith, from, before, other, few, some) in
          ap (has map.remains) same ∙ back
    ]

    long : (i : ℕ) → length (window offset more i) ≡ min (block_size - place offset i)
        (length more - (i * block_size - offset))
    long i = length-take (block_size - place offset i) (drop (i * block_size - offset) more)
        ∙ ap (min (block_size - place offset i)) (length-drop (i * block_size - offset) more)

    outside : (i : ℕ) → length (window offset more i) ≡ 0 → (i < first_of offset) ⊎ (end_of offset (length more) ≤ i)
    outside i none = elim (cases_lt i (first_of offset)) [
      | inl less ↦ inl less
      | inr from ↦ inr (let l = long i in omega (arith, l, none, from, some))
    ]

    inside : (i : ℕ) → 0 < length (window offset more i) → (first_of offset ≤ i) × (i < end_of offset (length more))
    inside i there = (let l = long i in (omega (arith, l, there), omega (arith, l, there, some)))
