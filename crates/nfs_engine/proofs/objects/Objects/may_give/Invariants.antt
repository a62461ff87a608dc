use Rattle.std.proofs.Common.{take}
use Rattle.std.specs.List.{AllByRecursion}
use Rattle.nfs_engine.specs.Tables.{Unspent, store_of}
use Rattle.nfs_engine.proofs.objects.Objects.may_give.Given as goal

abbrev pub invariant-loop-reserved : goal.invariant-loop-reserved
invariant-loop-reserved l = AllByRecursion (Unspent (store_of l.self.slots)) (take l.reserved-index l.numbers)
