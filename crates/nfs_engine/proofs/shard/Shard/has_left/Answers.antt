use Rattle.nfs_engine.proofs.SweepShardLemmas.{left-stands, none-left}
use Rattle.nfs_engine.proofs.shard.Shard.has_left.Goals as goal

pub returns-then-is_last : goal.returns-then-is_last
returns-then-is_last c =
    none-left c.args.self.now c.args.sweep.now (c.is_last.ensures.0 c.if-is_last.true)

pub returns : goal.returns
returns c =
    left-stands c.args.self.now c.args.sweep.now c.is_last.result c.is_last.ensures c.if-is_last.false c.file.result
    c.file.ensures c.stands_at.result c.stands_at.ensures
