-- What stands at a number goes: its blocks and maps, its pages and parts, and then its inode.
use Rattle.std.proofs.Common.{ℕ, ◌/◌, ◌%◌, ◌++◌, List, [], None, IsSome, refl, sym, subst}
use Rattle.nfs_objects.proofs.DirectoryStoreLemmas.{stand-frame}
use Rattle.nfs_objects.proofs.KnowsLemmas.{among-front, covers-among, stops-wider}
use Rattle.nfs_objects.specs.Attempt.{StopsCall}
use Rattle.nfs_objects.specs.Calls.{locks_at}
use Rattle.nfs_objects.specs.Bits.{has, no_bits}
use Rattle.nfs_objects.specs.Fits.{Fits}
use Rattle.nfs_objects.specs.Stands.{HasBlocks, HoldsEntries, IsMapped, IsStored, StoreMeaning, Represents}
use Rattle.nfs_objects.specs.Stands.{StandEntries}
use Rattle.nfs_objects.specs.Stands.{map_of}
use Rattle.nfs_objects.specs.Store.{Store, with_writes}
use Rattle.nfs_objects.specs.Unfiled.{KeepsBlocks, Lays}
use Rattle.nfs_objects.specs.Values.{DraftValue, ViewValue, known_at}
use Rattle.nfs_objects.specs.declared.address.Addr.{Addr}
use Rattle.nfs_objects.specs.declared.address.Addr.TheVariants as addresses
use Rattle.nfs_objects.specs.declared.change.Missing.{Missing}
use Rattle.nfs_inodes.specs.Cuts.{IsCleared}
use Rattle.nfs_inodes.specs.Entered.{EntriesStand, IsEmptied}
use Rattle.nfs_inodes.specs.Stops.{StillStands, StopsAt, counted_at}

-- what is asked for once blocks and maps of a file were written might have been asked for before
pub laid-stops : (n : ℕ) (d laid : DraftValue) → Lays n d laid → (asked : ViewValue → List Addr) (halt : Missing) →
    StopsAt laid (asked laid.view) halt → StopsAt d (asked d.view) halt
laid-stops n d laid lays asked halt stops =
    subst (λ v. StopsCall d.modes (asked v) 0 v halt) lays.view
    (subst (λ m. StopsCall m (asked laid.view) 0 laid.view halt) lays.modes stops)

-- what may be asked for where an object is counted anew may be where its locks are taken besides
pub locked-stops : (d : DraftValue) (n : ℕ) (halt : Missing) → StopsAt d (counted_at d n) halt →
    StopsAt d (counted_at d n ++ locks_at n) halt
locked-stops d n halt stops =
    stops-wider d.modes (counted_at d n) (counted_at d n ++ locks_at n) 0 d.view halt
    (covers-among (counted_at d n) (counted_at d n ++ locks_at n) d.view
    (λ a among. among-front (counted_at d n) (locks_at n) a among)) stops

-- no block and no map stands where pages and parts were written, and none did before
blocks-frame : (s t : Store) (n : ℕ) → KeepsBlocks s t → HasBlocks s n no_bits → HasBlocks t n no_bits
blocks-frame s t n keeps blocks = record {
  maps = λ page. subst (IsMapped (has no_bits page)) (sym (keeps.maps n page)) (blocks.maps page);
  blocks = λ i. subst (λ o. IsStored (has (map_of o) (i % 512)) (t.at (addresses.Block n i)))
      (sym (keeps.maps n (i / 512)))
      (subst (IsStored (has (map_of (s.at (addresses.Map n (i / 512)))) (i % 512))) (sym (keeps.blocks n i))
      (blocks.blocks i));
}

module _ (d cut : DraftValue) (n : ℕ) (cleared : IsCleared d cut n) where
  -- pages and parts stand as they did
  entries-stay : (s : Store) (k : StoreMeaning) → StandEntries (with_writes s d.writes) k n →
      StandEntries (with_writes s cut.writes) k n
  entries-stay s k stand =
      let keeps = cleared.lays.entries s in
      stand-frame (with_writes s d.writes) (with_writes s cut.writes) n (λ page. keeps.pages n page)
      (λ bucket part. keeps.parts n bucket part) k k (cleared.lays.inodes s n) refl refl stand

  -- so they may be asked for still
  pub entries-stand : StillStands d → EntriesStand cut n
  entries-stand still = λ s k fits stands.
      let was = still s k (subst (λ v. Fits v s) cleared.lays.view fits) stands in
      (was.0, entries-stay s was.0 (was.1.directories n))

  module _ (laid : DraftValue) (emptied : IsEmptied cut laid n) where
    -- and nothing is left beside the inode
    pub nothing-left : (s : Store) (k : StoreMeaning) → Fits d.view s → Represents (with_writes s d.writes) k →
        HasBlocks (with_writes s laid.writes) n no_bits × HoldsEntries (with_writes s laid.writes) n None []
    nothing-left s k fits stands = (
      blocks-frame (with_writes s cut.writes) (with_writes s laid.writes) n (emptied.enters.blocks s)
          (cleared.maps s k fits stands),
      emptied.emptied s k (subst (λ v. Fits v s) (sym cleared.lays.view) fits)
          (entries-stay s k (stands.directories n)),
    )

    pub known-left : IsSome (known_at d (addresses.Inode n)) → IsSome (known_at laid (addresses.Inode n))
    known-left some = emptied.knows.known (addresses.Inode n)
        (subst (λ x. IsSome x) (sym (cleared.inodes n)) some)
