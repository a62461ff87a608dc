use Rattle.std.proofs.Common.{◌≡◌}
use Rattle.nfs_engine.proofs.engine.make_room.Given as goal

abbrev pub invariant-loop-index : goal.invariant-loop-index
invariant-loop-index l = l.shards ≡ l.fn.shards
