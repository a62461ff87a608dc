-- Files of a store after writes that leave them, and but for one.
use Rattle.std.proofs.Common.{◌≡◌, ◌==◌, ℕ, true, false, cond, Bool, ◌/◌, ◌%◌}
use Rattle.std.proofs.Common.{List, [], Option, Some, None, refl, sym, ◌∙◌, ap, subst}
use Rattle.std.proofs.Common.{length}
use Rattle.std.proofs.lemmas.List.{length-replicate}
use Rattle.std.specs.Cmp.{unsigned_Decides}
use Rattle.std.specs.FinMap.{FinMap, get}
use Rattle.std.specs.Ordering.{nat_cmp}
use Rattle.nfs_machine.specs.Attributes.{size_of}
use Rattle.nfs_machine.specs.Exports.{LivingExport}
use Rattle.nfs_machine.specs.State.{Directory, Entry, Living, Regular}
use Rattle.nfs_machine.specs.State as machine
use Rattle.nfs_objects.proofs.DirectoryStoreLemmas.{directories-but}
use Rattle.nfs_objects.specs.Bits.{has}
use Rattle.nfs_objects.specs.FileMaps.{FileMapValue, IsContent}
use Rattle.nfs_objects.specs.Stands.{HasBlocks, IsMapped, IsStored, StoreMeaning, Represents, StandFiles, bytes_at}
use Rattle.nfs_objects.specs.Stands.{file_bytes}
use Rattle.nfs_objects.specs.Stands.{content_of, inode_in, inode_there, living_alone, living_of_inode, map_in, map_of}
use Rattle.nfs_objects.specs.Stands.{pages_of}
use Rattle.nfs_objects.specs.Stands.{Beside, HoldsEntries, beside_at, directory_entries, entry_map_in, filled}
use Rattle.nfs_objects.specs.Stands.{filed_in}
use Rattle.nfs_objects.specs.Store.{Store, put_at}
use Rattle.nfs_objects.specs.Unfiled.{RepresentsBut, StandFilesBut}
use Rattle.nfs_objects.specs.declared.address.Addr.TheVariants as addresses
use Rattle.nfs_objects.specs.declared.entry_map.EntryMap.{EntryMap}
use Rattle.nfs_objects.specs.declared.object.Content.{Content}
use Rattle.nfs_objects.specs.declared.object.Content.TheVariants as contents
use Rattle.nfs_objects.specs.declared.object.Inode.{Inode}
use Rattle.nfs_objects.specs.declared.object.Object.{Object}
use Rattle.nfs_objects.specs.declared.object.Object.TheVariants as objects

-- ---- what an inode is with other bytes or entries beside it
-- what stands beside an object with this content
abbrev pub beside_of : machine.Content → Beside
beside_of content = record { bytes = file_bytes content; entries = directory_entries content }

-- its own bytes or entries are those that it is given, where it is a file or a directory, and else it has none
pub living-own : (beside : Beside) (i : Inode) →
    living_of_inode (beside_of (filled beside (content_of i.content))) i ≡ living_of_inode beside i
living-own beside i = λ j. record (living_of_inode beside i) { content = own i.content j }
  where
    own : (c : Content) → filled (beside_of (filled beside (content_of c))) (content_of c) ≡ filled beside
        (content_of c)
    own (contents.Regular map) = refl
    own (contents.Directory directory) = refl
    own (contents.Link text) = refl
    own (contents.BlockDevice device) = refl
    own (contents.CharacterDevice device) = refl
    own contents.Socket = refl
    own contents.Fifo = refl

-- by itself it has its own zeros, or no entry
pub alone-is : (i : Inode) → living_of_inode (beside_of (content_of i.content)) i ≡ living_alone i
alone-is i = λ j. record (living_alone i) { content = own i.content j }
  where
    own : (c : Content) → filled (beside_of (content_of c)) (content_of c) ≡ content_of c
    own (contents.Regular map) = refl
    own (contents.Directory directory) = refl
    own (contents.Link text) = refl
    own (contents.BlockDevice device) = refl
    own (contents.CharacterDevice device) = refl
    own contents.Socket = refl
    own contents.Fifo = refl

pub bytes-own : (beside : Beside) (c : Content) (map : FileMapValue) → map_in c ≡ Some map →
    file_bytes (filled beside (content_of c)) ≡ beside.bytes
bytes-own beside (contents.Regular own) map is = refl
bytes-own beside (contents.Directory directory) map is = cc
bytes-own beside (contents.Link text) map is = cc
bytes-own beside (contents.BlockDevice device) map is = cc
bytes-own beside (contents.CharacterDevice device) map is = cc
bytes-own beside contents.Socket map is = cc
bytes-own beside contents.Fifo map is = cc

pub entries-own : (beside : Beside) (c : Content) (m : EntryMap) → entry_map_in c ≡ Some m →
    directory_entries (filled beside (content_of c)) ≡ beside.entries
entries-own beside (contents.Regular map) m is = cc
entries-own beside (contents.Directory directory) m is = refl
entries-own beside (contents.Link text) m is = cc
entries-own beside (contents.BlockDevice device) m is = cc
entries-own beside (contents.CharacterDevice device) m is = cc
entries-own beside contents.Socket m is = cc
entries-own beside contents.Fifo m is = cc

-- and so has another inode with the same maps, by what the first one is with these beside it
pub living-as : (beside : Beside) (i j : Inode) → map_in j.content ≡ map_in i.content →
    entry_map_in j.content ≡ entry_map_in i.content →
    living_of_inode (beside_of (filled beside (content_of i.content))) j ≡ living_of_inode beside j
living-as beside i j same listed = λ p. record (living_alone j) { content = as-own i.content j.content same listed p }
  where
    as-own : (c e : Content) → map_in e ≡ map_in c → entry_map_in e ≡ entry_map_in c →
        filled (beside_of (filled beside (content_of c))) (content_of e) ≡ filled beside (content_of e)
    as-own c (contents.Regular map) is listed = ap (λ b. Regular b) (bytes-own beside c map (sym is))
    as-own c (contents.Directory directory) is listed =
        ap (λ es. Directory es directory.last_cookie) (entries-own beside c directory.entries (sym listed))
    as-own c (contents.Link text) is listed = refl
    as-own c (contents.BlockDevice device) is listed = refl
    as-own c (contents.CharacterDevice device) is listed = refl
    as-own c contents.Socket is listed = refl
    as-own c contents.Fifo is listed = refl

-- with bytes that are as many as it tells, an inode's content has the size that it tells
pub size-with : (beside : Beside) (c : Content) →
    ((map : FileMapValue) → map_in c ≡ Some map → length beside.bytes ≡ map.size)
    → size_of (filled beside (content_of c)) ≡ size_of (content_of c)
size-with beside (contents.Regular map) counted = counted map refl ∙ sym (length-replicate {A = ℕ} map.size 0)
size-with beside (contents.Directory directory) counted = refl
size-with beside (contents.Link text) counted = refl
size-with beside (contents.BlockDevice device) counted = refl
size-with beside (contents.CharacterDevice device) counted = refl
size-with beside contents.Socket counted = refl
size-with beside contents.Fifo counted = refl

-- so it is with the bytes of what stands there
pub size-stands : (s : Store) (k : StoreMeaning) (n : ℕ) (i : Inode) → Represents s k
    → inode_there s k.state.exports n ≡ Some i
    → size_of (filled (beside_at k.state n) (content_of i.content)) ≡ size_of (content_of i.content)
size-stands s k n i stands there =
    size-with (beside_at k.state n) i.content (λ map is. (stands.files.bytes n i map there is).counted)

-- ---- files that stay
-- the bytes of what lives somewhere, if anything does, and its entries
abbrev pub living_bytes : Option Living → List ℕ
living_bytes o = elim o [ None ↦ [] | Some o ↦ file_bytes o.content ]

abbrev pub living_entries : Option Living → List Entry
living_entries o = elim o [ None ↦ [] | Some o ↦ directory_entries o.content ]

abbrev pub living_beside : Option Living → Beside
living_beside o = record { bytes = living_bytes o; entries = living_entries o }

-- what a store has of files, and what the state has
abbrev files_in : Store → StoreMeaning → (ℕ → Option Object) × (ℕ → ℕ → Option Object) × (ℕ → ℕ → Option Object) ×
    List LivingExport × FinMap nat_cmp Living
files_in s k = (
  λ n. s.at (addresses.Inode n),
  λ n p. s.at (addresses.Map n p),
  λ n i. s.at (addresses.Block n i),
  k.state.exports,
  k.state.objects,
)

pub files-stay : (s t : Store) (k l : StoreMeaning) → files_in t l ≡ files_in s k → StandFiles s k → StandFiles t l
files-stay s t k l same stand = record {
  blocks = λ n. record {
    maps = λ p. subst (λ x. IsMapped (has (pages_of (x.0 n)) p) (x.1 n p)) (sym same) ((stand.blocks n).maps p);
    blocks = λ i.
        subst (λ x. IsStored (has (map_of (x.1 n (i / 512))) (i % 512)) (x.2 n i)) (sym same)
        ((stand.blocks n).blocks i);
  };
  bytes = λ n i map there is.
      subst (λ x. IsContent map.size (λ b. filed_in map b (x.2 n b)) (living_bytes (get x.4 n))) (sym same)
      (stand.bytes n i map (ap (λ x. inode_in x.3 (x.0 n)) (sym same) ∙ there) is);
}

pub files-but : (number : ℕ) (s : Store) (k : StoreMeaning) → StandFiles s k → StandFilesBut number s k
files-but number s k stand = record {
  blocks = λ n other. stand.blocks n;
  bytes = λ n i map other there is. stand.bytes n i map there is;
}

pub stands-but : (number : ℕ) (s : Store) (k : StoreMeaning) → Represents s k → RepresentsBut number s k
stands-but number s k stands = record {
  tables = stands.tables;
  objects = stands.objects;
  files = files-but number s k stands.files;
  directories = directories-but number s k stands.directories;
  usages = stands.usages;
  locks = stands.locks;
}

-- ---- an inode is put, or taken away, and the file there is as its blocks and maps are
-- the blocks at a number have these bytes, where it is a file's
abbrev pub HasContent : Store → (n : ℕ) → (bytes : List ℕ) → Inode → Type 0
HasContent s n bytes i = (map : FileMapValue) → map_in i.content ≡ Some map →
    IsContent map.size (λ b. filed_in map b (s.at (addresses.Block n b))) bytes

-- the pages and parts at a number are those of these entries, where it is a directory's, and else there are none
abbrev pub HasListing : Store → (n : ℕ) → List Entry → Inode → Type 0
HasListing s n entries i = HoldsEntries s n (entry_map_in i.content) entries

-- what was said of the file at a number holds of each number that is the same
here-or-there : (P : ℕ → Type 0) (number : ℕ) → P number → ((n : ℕ) → (number == n) ≡ false → P n) → (n : ℕ) → P n
here-or-there P number here there n = by (number == n) refl
  where
    by : (b : Bool) → (number == n) ≡ b → P n
    by true is = subst P ((unsigned_Decides number n).0 is) here
    by false is = there n is

module _ (s : Store) (k : StoreMeaning) (number : ℕ) (o : Option Object) (last : ℕ
    → ℕ) (others : StandFilesBut number s k)
    (filed : HasBlocks s number (pages_of o)) where
  -- the store with this at the number
  abbrev after : Store
  after = record { at = put_at s.at (addresses.Inode number) o; last = last }

  put-here : (n : ℕ) → (number == n) ≡ true → after.at (addresses.Inode n) ≡ o
  put-here n is = ap (λ b. cond b o (s.at (addresses.Inode n))) is

  put-there : (n : ℕ) → (number == n) ≡ false → after.at (addresses.Inode n) ≡ s.at (addresses.Inode n)
  put-there n is = ap (λ b. cond b o (s.at (addresses.Inode n))) is

  own : (number == number) ≡ true
  own = (unsigned_Decides number number).1 refl

  pub files-put : (l : StoreMeaning) → l.state.exports ≡ k.state.exports
      → ((n : ℕ) → (number == n) ≡ false → bytes_at l.state n ≡ bytes_at k.state n)
      → ((i : Inode) → inode_in l.state.exports o ≡ Some i → HasContent s number (bytes_at l.state number) i)
      → StandFiles after l
  files-put l exports stay content = record {
    blocks = λ n. here-or-there (λ q. HasBlocks after q (pages_of (after.at (addresses.Inode q)))) number
        (subst (λ x. HasBlocks after number (pages_of x)) (sym (put-here number own))
        (record { maps = filed.maps; blocks = filed.blocks }))
        (λ q other. subst (λ x. HasBlocks after q (pages_of x)) (sym (put-there q other))
        (record { maps = (others.blocks q other).maps; blocks = (others.blocks q other).blocks }))
        n;
    bytes = λ n. here-or-there
        (λ q. (i : Inode) (map : FileMapValue) → inode_there after l.state.exports q ≡ Some i →
        map_in i.content ≡ Some map →
        IsContent map.size (λ b. filed_in map b (s.at (addresses.Block q b))) (bytes_at l.state q))
        number
        (λ i map there is. content i (ap (inode_in l.state.exports) (sym (put-here number own)) ∙ there) map is)
        (λ q other i map there is. subst (IsContent map.size (λ b. filed_in map b (s.at (addresses.Block q b))))
        (sym (stay q other))
        (others.bytes q i map other
        ((λ j. inode_in (sym exports j) (sym (put-there q other) j)) ∙ there) is))
        n;
  }
