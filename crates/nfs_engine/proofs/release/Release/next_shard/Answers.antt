use Rattle.std.proofs.Common.{get_or, false, sym, ◌∙◌, ap, arith}
use Rattle.nfs_objects.specs.Values.{Seen, seen_of}
use Rattle.nfs_engine.proofs.LeftCallLemmas.{free_further, holds_nothing, holds_some, past_all, past_none}
use Rattle.nfs_engine.proofs.release.Release.next_shard.Goals as goal

pub loop-place-preserved : goal.loop-place-preserved
loop-place-preserved c =
    let e : Seen = seen_of (c.in-Some.address, c.in-Some.field-0-1.now) in
    free_further c.args.self.now c.loop-place.place e c.loop-place.invariant
    (rw (← c.self.view_is) (sym c.in-Some.ensures))
    (rw (← c.self.view_is) (ap (λ k. get_or c.self.inside.done k false) (sym c.shard_index-index.ensures.which) ∙
    c.if-not-self-index.false))

pub returns-after-loop-place : goal.returns-after-loop-place
returns-after-loop-place c = holds_nothing c.args.self.now (past_all c.args.self.now c.loop-place.place
    (rw (← c.self.view_is) (omega arith)) c.loop-place.invariant)

pub returns-in_default : goal.returns-in_default
returns-in_default c = holds_nothing c.args.self.now (past_none c.args.self.now c.loop-place.place
    (rw (← c.self.view_is) c.in_default.ensures) c.loop-place.invariant)

pub returns-then-not-self-index : goal.returns-then-not-self-index
returns-then-not-self-index c =
    let e : Seen = seen_of (c.in-Some.address, c.in-Some.field-0-1.now) in (
      c.shard_index-index.ensures.within,
      rw (← c.self.view_is) (omega arith),
      rw (← c.self.view_is) c.if-not-self-index.true,
      holds_some c.args.self.now c.loop-place.place e c.shard_index-index.result
          (rw (← c.self.view_is) (sym c.in-Some.ensures)) c.shard_index-index.ensures.which
          (rw (← c.self.view_is) c.if-not-self-index.true),
    )
