-- What FREE_ALL finds, bucket by bucket, as far as a draft knows.
use Rattle.std.proofs.Common.{◌≡◌, ◌+◌, ℕ, List, []}
use Rattle.std.specs.List.Sorted.{IsNonDecreasingBy, IsPermutation}
use Rattle.nfs_machine.specs.Exports.{LivingExport}
use Rattle.nfs_machine.specs.WellFormed.{WellFormed}
use Rattle.nlm_ranges.specs.Buckets.{LockedValue, bucket_count}
use Rattle.nfs_objects.specs.Knows.{Knows, Possible}
use Rattle.nfs_objects.specs.Stands.{IsPlaced, StoreMeaning, bucket_there}
use Rattle.nfs_objects.specs.Store.{Store, with_writes}
use Rattle.nfs_objects.specs.Values.{DraftValue}
use Rattle.nfs_inodes.proofs.BucketPutLemmas.{bucket-stands}
use Rattle.nlm_daemon.proofs.AnsweredGrantLemmas.{all-has}
use Rattle.nlm_daemon.proofs.FilesByNumberLemmas.{AreFreedBelow, below-first, below-step, freed-all}
use Rattle.nlm_daemon.proofs.BucketFilesLemmas.{placed-lives}
use Rattle.nlm_daemon.specs.Freeing.{AddsBucket, AreFreed}

-- in each state that is possible, the files of so many buckets are freed
abbrev pub AreGathered : DraftValue → (name : List ℕ) → (count : ℕ) → List LockedValue → Type 0
AreGathered d name count freed = (s : Store) (k : StoreMeaning) → Possible d s k →
    AreFreedBelow (with_writes s d.writes) k.state name count freed

module _ (d : DraftValue) (name : List ℕ) where
  pub gathered-first : AreGathered d name 0 []
  gathered-first s k w = below-first (with_writes s d.writes) k.state w.stands.locks name

  pub gathered-next : (exports : List LivingExport) → Knows d (λ k. k.state.exports ≡ exports) → (index : ℕ)
      (old new : List LockedValue) → AddsBucket d exports name index old new → AreGathered d name index old →
      AreGathered d name (index + 1) new
  gathered-next exports lists index old new adds before s k w =
      below-step (with_writes s d.writes) k.state w.stands.locks name d exports index old new (lists s k w)
      (λ b known. bucket-stands d index b known s w.fits)
      (λ f listed lives. placed-lives (with_writes s d.writes) k w.stands index f
      (all-has (IsPlaced (with_writes s d.writes) index) (bucket_there (with_writes s d.writes) index).files f
      (w.stands.locks.placed index) listed) lives)
      adds (before s k w)

  pub gathered-all : (freed sorted : List LockedValue) → AreGathered d name bucket_count freed →
      IsPermutation freed sorted → IsNonDecreasingBy (λ (f : LockedValue). f.number) sorted →
      Knows d (λ k. WellFormed k.state → AreFreed k.state name sorted)
  gathered-all freed sorted all moved rises s k w formed =
      freed-all (with_writes s d.writes) k.state w.stands.locks name freed sorted (all s k w) moved rises
