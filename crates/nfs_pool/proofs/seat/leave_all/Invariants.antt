use Rattle.std.proofs.Common.{◌≡◌, ◌+◌, ◌++◌, ◌≤◌, length}
use Rattle.std.specs.Prelude.{reverse, vec_capacity}
use Rattle.nfs_pool.specs.Eras.{told_by, told_in}
use Rattle.nfs_pool.specs.Seats.{Counts}
use Rattle.nfs_pool.proofs.seat.leave_all.Given as goal

abbrev pub invariant-seats : goal.invariant-seats
invariant-seats g l =
    (l.all.parts + length l.rest.items ≡ l.initial.all.parts + length l.initial.rest.items)
    × Counts (length (told_in l.lists.items)) l.all.amount
    × (length l.lists.items + length l.rest.items ≤ vec_capacity l.lists)
    × (told_in l.lists.items ++ told_by (reverse l.rest.items) ≡ told_by (reverse l.initial.rest.items))
    × (vec_capacity l.lists ≡ vec_capacity l.initial.lists)
    × (vec_capacity l.rest ≡ vec_capacity l.initial.rest)

abbrev pub decreases-seats : goal.decreases-seats
decreases-seats g l = length l.rest.items
