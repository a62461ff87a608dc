use Rattle.nfs_engine.proofs.SweepStoreStepLemmas.{StoreGoneTo}
use Rattle.nfs_engine.specs.Tables.{store_of}
use Rattle.nfs_engine.proofs.objects.Objects.sweep.Given as goal

abbrev pub invariant-loop-place : goal.invariant-loop-place
invariant-loop-place l = StoreGoneTo (store_of l.fn.self.slots) (store_of l.self.slots) l.sweep.file l.sweep.page
    l.place
