use Rattle.std.proofs.Common.{◌≡◌, map, take}
use Rattle.nfs_pool.specs.Eras.{told_by, told_value}
use Rattle.nfs_pool.proofs.comparing.told_in_order.Given as goal

abbrev pub invariant-loop-seat : goal.invariant-loop-seat
invariant-loop-seat g l = map told_value l.tells.items ≡ told_by (take l.seat-index l.seats)
