use Rattle.std.proofs.Common.{List, take, sym, ◌∙◌, subst}
use Rattle.nfs_objects.specs.Values.{Seen, seen_of}
use Rattle.nfs_engine.proofs.LetGoEntryLemmas.{further, one_goes, other_stays}
use Rattle.nfs_engine.specs.Taking.{LetsGo}
use Rattle.nfs_engine.proofs.taking.let_go.Goals as goal

pub loop-place-preserved-then-shard_index-index : goal.loop-place-preserved-then-shard_index-index
loop-place-preserved-then-shard_index-index c =
    let e : Seen = seen_of (c.in-Some.address, c.in-Some.field-0-1.now) in
    subst (λ (es : List Seen). LetsGo c.args.shard.now c.loop-place.shard c.args.index c.args.id es)
    (sym (further c.args.view.now.entries c.loop-place.place e (sym c.in-Some.ensures)))
    (other_stays c.args.shard.now c.loop-place.shard c.args.index c.args.id
    (take c.loop-place.place c.args.view.now.entries) e c.loop-place.invariant
    (λ is. c.if-shard_index-index.true (c.shard_index.ensures.which ∙ is)))

pub loop-place-preserved : goal.loop-place-preserved
loop-place-preserved c =
    let e : Seen = seen_of (c.in-Some.address, c.in-Some.field-0-1.now) in
    subst (λ (es : List Seen). LetsGo c.args.shard.now c.release.new.self c.args.index c.args.id es)
    (sym (further c.args.view.now.entries c.loop-place.place e (sym c.in-Some.ensures)))
    (one_goes c.args.shard.now c.loop-place.shard c.args.index c.args.id
    (take c.loop-place.place c.args.view.now.entries) e c.loop-place.invariant c.release.new.self
    (sym c.shard_index.ensures.which ∙ c.if-shard_index-index.false) c.release.ensures)
