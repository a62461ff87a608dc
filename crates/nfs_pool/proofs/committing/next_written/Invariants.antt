use Rattle.std.proofs.Common.{◌≡◌, ◌<◌, ◌≤◌, ℕ, false, get_or}
use Rattle.nfs_pool.proofs.committing.next_written.Given as goal

abbrev pub invariant-loop-index : goal.invariant-loop-index
invariant-loop-index l = (k : ℕ) → l.from ≤ k → k < l.index → get_or l.written k false ≡ false
