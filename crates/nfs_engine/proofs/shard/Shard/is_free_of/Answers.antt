use Rattle.nfs_engine.proofs.SweepShardLemmas.{free-decides, not-free, not-left}
use Rattle.nfs_engine.proofs.shard.Shard.is_free_of.Goals as goal

pub returns-then-not-has_left : goal.returns-then-not-has_left
returns-then-not-has_left c =
    not-left c.args.self.now c.args.sweep.now c.has_left.result c.has_left.ensures c.if-not-has_left.true

pub returns-then-not-is_free : goal.returns-then-not-is_free
returns-then-not-is_free c =
    not-free c.args.self.now c.args.sweep.now c.file.result c.file.ensures c.is_free.result c.is_free.ensures
    c.if-not-is_free.true

pub returns : goal.returns
returns c =
    free-decides c.args.self.now c.args.sweep.now c.has_left.result c.has_left.ensures c.if-not-has_left.false
    c.file.result c.file.ensures c.is_free.result c.is_free.ensures c.if-not-is_free.false c.is_page_free.result
    c.is_page_free.ensures
