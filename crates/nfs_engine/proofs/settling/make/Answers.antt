use Rattle.std.proofs.Common.{rules, sym, ◌∙◌, arith}
use Rattle.nfs_engine.proofs.WritesInShardLemmas.{value_held, value_one, value_other}
use Rattle.nfs_engine.proofs.settling.make.Goals as goal

pub loop-place-preserved-then-shard_index-index : goal.loop-place-preserved-then-shard_index-index
loop-place-preserved-then-shard_index-index c = (
  c.loop-place.invariant.0,
  value_other _ _ _ _ c.loop-place.writes c.loop-place.place c.loop-place.invariant.1 c.index-writes-place.result
      (omega arith) (λ is. c.if-shard_index-index.true (c.shard_index.ensures.which ∙ is)),
)

pub fill-requires : goal.fill-requires
fill-requires c = value_held _ _ _ _ c.loop-place.writes c.loop-place.place c.loop-place.invariant.1
    c.index-writes-place.result (omega arith) (sym c.shard_index.ensures.which ∙ c.if-shard_index-index.false)

pub loop-place-preserved : goal.loop-place-preserved
loop-place-preserved c = (
  search rules,
  value_one _ _ _ _ c.loop-place.writes c.loop-place.place c.loop-place.invariant.1 c.index-writes-place.result
      (omega arith) c.fill.new.self c.index-writes-place-in-loop-place.result c.take-object.result
      c.take-object.new.self (sym c.shard_index.ensures.which ∙ c.if-shard_index-index.false)
      c.take-object.ensures.value c.take-object.ensures.after c.fill.ensures,
)
