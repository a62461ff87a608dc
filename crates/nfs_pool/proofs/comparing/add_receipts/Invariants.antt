use Rattle.std.proofs.Common.{◌≡◌, ◌++◌, map, take}
use Rattle.nfs_pool.specs.Eras.{told, told_value}
use Rattle.nfs_pool.proofs.comparing.add_receipts.Given as goal

abbrev pub invariant-loop-receipt : goal.invariant-loop-receipt
invariant-loop-receipt l =
    map told_value l.tells.items ≡ map told_value l.initial.tells.items ++ map told (take l.receipt-index l.receipts)
