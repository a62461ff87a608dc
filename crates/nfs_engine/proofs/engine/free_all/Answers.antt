use Rattle.std.proofs.Common.{◌∙◌, List, ap, arith, set, subst, sym, take}
use Rattle.nfs_objects.specs.Values.{Seen, seen_of}
use Rattle.nfs_engine.proofs.ShardLetGoLemmas.{freeing_one, freeing_other, is_of}
use Rattle.nfs_engine.proofs.LetGoEntryLemmas.{further}
use Rattle.nfs_engine.specs.Engine.{Frees}
use Rattle.nfs_engine.proofs.engine.free_all.Goals as goal

pub loop-place-preserved-then-not-which-index : goal.loop-place-preserved-then-not-which-index
loop-place-preserved-then-not-which-index c =
    let e : Seen = seen_of (c.in-Some.address, c.in-Some.field-0-1.now) in
    subst (λ (es : List Seen). Frees c.args.shards.now c.loop-place.shards c.args.which.now c.args.id es)
    (sym (further c.args.view.now.entries c.loop-place.place e (sym c.in-Some.ensures)))
    (freeing_other c.args.shards.now c.loop-place.shards c.args.which.now c.args.id
    (take c.loop-place.place c.args.view.now.entries) e c.loop-place.invariant
    (ap (is_of c.args.which.now) (sym c.shard_index-index.ensures.which) ∙ c.if-not-which-index.true))

pub loop-place-preserved : goal.loop-place-preserved
loop-place-preserved c =
    let e : Seen = seen_of (c.in-Some.address, c.in-Some.field-0-1.now) in
    subst (λ (es : List Seen). Frees c.args.shards.now (set c.loop-place.shards c.shard_index-index.result
    c.release.new.self) c.args.which.now c.args.id es)
    (sym (further c.args.view.now.entries c.loop-place.place e (sym c.in-Some.ensures)))
    (freeing_one c.args.shards.now c.loop-place.shards c.args.which.now c.args.id
    (take c.loop-place.place c.args.view.now.entries) e c.loop-place.invariant c.shard_index-index.result
    c.index-shards-index.result c.release.new.self c.shard_index-index.ensures.which c.if-not-which-index.false
    (omega arith) c.release.ensures)
