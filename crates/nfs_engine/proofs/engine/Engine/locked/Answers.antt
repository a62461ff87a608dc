use Rattle.std.proofs.Common.{List, ◌+◌, ◌∙◌, ap, sym, take, arith, subst}
use Rattle.std.proofs.lemmas.List.{take_all}
use Rattle.nfs_engine.proofs.HeldCountLemmas.{counted_more}
use Rattle.nfs_engine.specs.Engine.{CountsLocked, EngineValue}
use Rattle.nfs_engine.specs.Locked.{IsLocked}
use Rattle.nfs_engine.specs.Shards.{ShardValue}
use Rattle.nfs_engine.proofs.engine.Engine.locked.Goals as goal

pub loop-shard-preserved : goal.loop-shard-preserved
loop-shard-preserved c =
    let same = c.as_slice-shard-items.ensures ∙ ap (λ (e : EngineValue). e.shards) c.self.view_is in
    subst (λ (xs : List ShardValue). CountsLocked (take (c.loop-shard.shard-index + 1) xs)
    c.saturating_add-count.result) same (counted_more c.as_slice-shard-items.result.now c.loop-shard.shard-index
    c.shard-item.result c.loop-shard.count c.locked.result c.saturating_add-count.result (omega arith)
    (subst (λ (xs : List ShardValue). CountsLocked (take c.loop-shard.shard-index xs) c.loop-shard.count) (sym same)
    c.loop-shard.invariant) (subst (λ (s : ShardValue). IsLocked s c.locked.result) c.shard-item.is c.locked.ensures)
    c.saturating_add-count.ensures)

pub returns : goal.returns
returns c =
    let same = c.as_slice-shard-items.ensures ∙ ap (λ (e : EngineValue). e.shards) c.self.view_is in
    subst (λ (xs : List ShardValue). CountsLocked xs c.loop-shard.count) same
    (subst (λ (xs : List ShardValue). CountsLocked xs c.loop-shard.count)
    (take_all c.loop-shard.shard-index c.as_slice-shard-items.result.now (omega arith))
    (subst (λ (xs : List ShardValue). CountsLocked (take c.loop-shard.shard-index xs) c.loop-shard.count) (sym same)
    c.loop-shard.invariant))
