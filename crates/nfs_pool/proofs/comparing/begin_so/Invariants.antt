use Rattle.std.proofs.Common.{◌<◌, ℕ, map}
use Rattle.nfs_engine.specs.Arrivals.{shared_value}
use Rattle.nfs_pool.specs.Eras.{StandsAt, told_value}
use Rattle.nfs_pool.proofs.comparing.begin_so.Given as goal

abbrev pub invariant-loop-place : goal.invariant-loop-place
invariant-loop-place l = (k : ℕ) → k < l.place →
    StandsAt l.before (map shared_value l.records) (map told_value l.tells) k
