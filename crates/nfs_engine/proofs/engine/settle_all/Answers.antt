use Rattle.std.proofs.Common.{arith}
use Rattle.nfs_engine.proofs.ShardsSettledLemmas.{held_by_own, settled_next, settled_other}
use Rattle.nfs_engine.proofs.engine.settle_all.Goals as goal
use Rattle.nfs_engine.proofs.engine.settle_all.Goals.{then-written-index, else-written-index}

pub settle-requires : goal.settle-requires
settle-requires c = held_by_own _ _ _ _ _ _ _ c.loop-index.index c.loop-index.invariant c.index-shards-index.result
    (omega arith) (omega arith) c.requires.indices

pub loop-index-preserved : goal.loop-index-preserved
loop-index-preserved c = elim c.if-written-index.branch [
  | then-written-index w ↦ rw (w.shards-is, w.writes-is) (settled_next _ _ _ _ _ _ _ _ c.loop-index.index
      w.index-shards-index.result w.settle.new.self c.loop-index.invariant (omega arith) (omega arith)
      c.requires.indices w.if-written-index.true w.settle.ensures.shard w.settle.ensures.left)
  | else-written-index w ↦ rw (w.shards-is, w.writes-is) (settled_other _ _ _ _ _ _ _ c.loop-index.index
      c.loop-index.invariant c.requires.places w.if-written-index.false)
]
