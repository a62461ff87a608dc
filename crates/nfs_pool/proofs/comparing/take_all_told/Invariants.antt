use Rattle.std.proofs.Common.{◌≡◌, ◌≤◌, length, map}
use Rattle.std.specs.Prelude.{vec_capacity}
use Rattle.nfs_engine.specs.Arrivals.{shared_value}
use Rattle.nfs_pool.specs.Eras.{told_in}
use Rattle.nfs_pool.proofs.TakenReceiptsLemmas.{Taking}
use Rattle.nfs_pool.proofs.comparing.take_all_told.Given as goal

abbrev pub invariant-records : goal.invariant-records
invariant-records l =
    Taking l.before (map shared_value l.records) (told_in l.fn.lists.items) l.left (told_in l.lists.items)
    × (l.left ≤ length l.records)
    × (vec_capacity l.lists ≡ vec_capacity l.fn.lists)

abbrev pub decreases-records : goal.decreases-records
decreases-records l = l.left
