use Rattle.std.proofs.Common.{take}
use Rattle.std.specs.List.{AllByRecursion}
use Rattle.nfs_engine.specs.Tables.{Stands, store_of}
use Rattle.nfs_engine.proofs.objects.Objects.shows.Given as goal

abbrev pub invariant-loop-index : goal.invariant-loop-index
invariant-loop-index l = AllByRecursion (Stands (store_of l.self.slots)) (take l.index l.view.entries)
