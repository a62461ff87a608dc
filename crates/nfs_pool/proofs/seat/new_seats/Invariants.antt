use Rattle.std.proofs.Common.{◌≡◌, ◌+◌, ◌<◌}
use Rattle.std.specs.Prelude.{vec_capacity}
use Rattle.nfs_pool.specs.Eras.{AreNew}
use Rattle.nfs_pool.proofs.seat.new_seats.Given as goal

abbrev pub invariant-loop-number : goal.invariant-loop-number
invariant-loop-number g l =
    (l.all.parts + l.number ≡ l.last + 1) × (l.all.amount ≡ l.initial.all.amount) × AreNew l.seats.items l.number
    × (l.last < vec_capacity l.seats)
