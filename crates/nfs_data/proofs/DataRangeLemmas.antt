-- Where the data of READ and WRITE lies, as the calls name it.
use Rattle.std.proofs.Common.{◌≡◌, ℕ, List, [], ◌++◌, Option, Some, None, option_map, inr, refl, subst}
use Rattle.nfs_wire.specs.declared.calls.NfsCall.TheVariants as nfs
use Rattle.nfs_wire.specs.declared.calls.ReadArguments.{ReadArguments}
use Rattle.nfs_wire.specs.declared.calls.WriteArguments.{WriteArguments}
use Rattle.nfs_machine.specs.Handles.{handle_of}
use Rattle.nfs_machine.specs.declared.calls.Call.TheVariants as calls
use Rattle.nfs_machine.specs.declared.handle.Handle.{Handle}
use Rattle.nfs_objects.proofs.KnowsLemmas.{Covers, among-behind, among-front, covers-among, covers-both, names-data}
use Rattle.nfs_objects.specs.Asks.{IsThere}
use Rattle.nfs_objects.specs.Calls.{IsAmong, addresses_of, blocks_at, in_file, maps_at, named_by}
use Rattle.nfs_objects.specs.Values.{DraftValue, ViewValue}
use Rattle.nfs_objects.specs.declared.address.Addr.{Addr}
use Rattle.nfs_objects.specs.declared.address.Addr.TheVariants as addresses
use Rattle.nfs_inodes.proofs.MakerChainLemmas.{group-lives}
use Rattle.nfs_inodes.specs.Blocks.{read_from, written_from}
use Rattle.nfs_inodes.specs.Known.{HasNumber}
use Rattle.nfs_inodes.specs.Stops.{UsageLives, counted_at, group_at, inode_at}

-- what lies in the file at the number of a handle lies in the file that the handle names
in-file : (handle : List ℕ) (number : ℕ) (places : ℕ → List Addr) (a : Addr) → HasNumber handle number →
    IsAmong (places number) a → IsAmong (in_file handle places) a
in-file handle number places a has among =
    elim (handle_of handle) as (λ (o : Option Handle). option_map (λ (h : Handle). h.fileid) o ≡ Some number →
    IsAmong (elim o as (λ (_ : Option Handle). List Addr) [ None ↦ [] | Some h ↦ places h.fileid ]) a) [
      | None ↦ λ none. absurd (let no : None ≡ Some number = none in cc)
      | Some h ↦ λ is. subst (λ n. IsAmong (places n) a) (let same : number ≡ h.fileid = cc in same) among
    ] has

-- what READ may ask for
pub read-covers : (view : ViewValue) (a : ReadArguments) (number : ℕ) → HasNumber a.file number →
    IsThere view (addresses.Inode number) →
    Covers (named_by (calls.Nfs (nfs.Read a)) view) view (read_from view number a.offset)
read-covers view a number has lives =
    let named = named_by (calls.Nfs (nfs.Read a)) view in
    covers-both named view (addresses_of view number) (blocks_at number a.offset) (inr lives, tt)
    (covers-among (blocks_at number a.offset) named view (λ x among. names-data (nfs.Read a) view x
    (in-file a.file number (λ file. blocks_at file a.offset) x has among)))

-- what WRITE may ask for
pub write-covers : (d : DraftValue) (a : WriteArguments) (number : ℕ) → HasNumber a.file number →
    IsThere d.view (addresses.Inode number) → UsageLives d number →
    Covers (named_by (calls.Nfs (nfs.Write a)) d.view) d.view (written_from d number a.offset)
write-covers d a number has lives counts =
    let named = named_by (calls.Nfs (nfs.Write a)) d.view in
    let blocks = blocks_at number a.offset in
    let maps = maps_at number a.offset in
    let names = λ (x : Addr) (among : IsAmong (blocks ++ maps) x). names-data (nfs.Write a) d.view x
    (in-file a.file number (λ file. blocks_at file a.offset ++ maps_at file a.offset) x has among) in
    covers-both named d.view (counted_at d number ++ blocks) maps
    (covers-both named d.view (counted_at d number) blocks
    (covers-both named d.view (addresses_of d.view number) (group_at number (inode_at d number)) (inr lives, tt)
    (group-lives d number d.view named refl counts))
    (covers-among blocks named d.view (λ x among. names x (among-front blocks maps x among))))
    (covers-among maps named d.view (λ x among. names x (among-behind blocks maps x among)))
