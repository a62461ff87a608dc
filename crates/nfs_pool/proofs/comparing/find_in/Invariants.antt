use Rattle.std.proofs.Common.{◌+◌, ◌<◌, ℕ, map}
use Rattle.nfs_engine.specs.Arrivals.{shared_value}
use Rattle.nfs_pool.specs.Eras.{IsToldAt, told}
use Rattle.nfs_pool.proofs.comparing.find_in.Given as goal

abbrev pub invariant-loop-at : goal.invariant-loop-at
invariant-loop-at l = (k : ℕ) → k < l.at →
    IsToldAt (map told l.list) k (l.before + l.place + 1) (shared_value l.executed) → ⊥
