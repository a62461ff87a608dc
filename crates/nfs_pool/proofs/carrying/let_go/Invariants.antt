use Rattle.std.proofs.Common.{◌≡◌}
use Rattle.nfs_pool.proofs.carrying.let_go.Given as goal

abbrev pub invariant-shards : goal.invariant-shards
invariant-shards g l = l.release.after ≡ l.fn.release.after
