use Rattle.std.proofs.Common.{List, Option, map, ◌∙◌, ap, sym, subst}
use Rattle.std.specs.List.{AllByRecursion}
use Rattle.nfs_objects.specs.Values.{write_value}
use Rattle.nfs_objects.specs.declared.address.Addr.{Addr}
use Rattle.nfs_objects.specs.declared.object.Object.{Object}
use Rattle.nfs_machine.specs.RpcReplies.{success_message}
use Rattle.nfs_replies.specs.declared.origins.Origin.{Origin}
use Rattle.nfs_engine.proofs.SettleLemmas.{came_so, held_to_write, may_commit, settled_counters, settled_leaving}
use Rattle.nfs_engine.proofs.SettleLemmas.{settled_others, settled_tied}
use Rattle.nfs_engine.specs.Calls.{txn_of}
use Rattle.nfs_engine.specs.Engine.{IsHeldAmong}
use Rattle.nfs_engine.specs.Releases.{ReleaseValue}
use Rattle.nfs_engine.specs.Repeats.{Keeps}
use Rattle.nfs_engine.proofs.engine.Engine.commit.Goals as goal

pub commit-requires : goal.commit-requires
commit-requires c = may_commit (record { book = c.self.inside.book; shards = c.self.inside.shards }) c.args.finished
    (rw (← c.self.view_is) at c.requires)

pub settle_all-requires-clause-held : goal.settle_all-requires-clause-held
settle_all-requires-clause-held c =
    rw c.make_room.ensures (subst (λ (ws : List (Addr × Option Object)). AllByRecursion (λ (w : Addr × Option Object).
    IsHeldAmong c.self.inside.shards w.0) ws)
    (sym (ap (map write_value) c.deref_mut.ensures.value ∙ c.in-Ok.ensures.leaves.writes))
    (held_to_write c.self.inside.book c.self.inside.shards c.args.finished
    (rw (← c.self.view_is) at c.requires) c.show_finished.ensures.promised))

pub invariant_of-self-2 : goal.invariant_of-self-2
invariant_of-self-2 c = settled_tied c.self.inside.book c.commit.new.self c.self.inside.shards c.settle_all.new.shards
    c.args.finished (record {
      id = c.release.inside.id;
      view = c.release.inside.view;
      done = c.written_shards-written.result;
      after = c.release.inside.after;
    }) c.self.invariant (rw (← c.self.view_is) at c.requires) c.show_finished.ensures.promised c.show_run.ensures.run
    c.in-Ok.ensures.commits (map write_value c.deref_mut.result.now) (rw c.make_room.ensures at c.settle_all.ensures)
    (ap (map write_value) c.deref_mut.ensures.value ∙ c.in-Ok.ensures.leaves.writes)
    (ap (λ (r : ReleaseValue). r.id) (c.release.view_is ∙ c.in-Ok.ensures.leaves.release))
    (ap (λ (r : ReleaseValue). r.view) (c.release.view_is ∙ c.in-Ok.ensures.leaves.release))
    (ap (λ (r : ReleaseValue). r.after) (c.release.view_is ∙ c.in-Ok.ensures.leaves.release))

pub returns-clause-step : goal.returns-clause-step
returns-clause-step c = rw (← c.self.view_is) c.in-Ok.ensures.step

pub returns-clause-leads : goal.returns-clause-leads
returns-clause-leads c = rw (← c.self.view_is) c.in-Ok.ensures.leads

pub returns-clause-others : goal.returns-clause-others
returns-clause-others c = rw (← c.self.view_is) (settled_others c.self.inside.book c.commit.new.self
    c.self.inside.shards c.settle_all.new.shards c.args.finished (record {
      id = c.release.inside.id;
      view = c.release.inside.view;
      done = c.written_shards-written.result;
      after = c.release.inside.after;
    }) c.self.invariant (rw (← c.self.view_is) at c.requires) c.show_finished.ensures.promised c.show_run.ensures.run
    c.in-Ok.ensures.commits (map write_value c.deref_mut.result.now) (rw c.make_room.ensures at c.settle_all.ensures)
    (ap (map write_value) c.deref_mut.ensures.value ∙ c.in-Ok.ensures.leaves.writes)
    (ap (λ (r : ReleaseValue). r.id) (c.release.view_is ∙ c.in-Ok.ensures.leaves.release))
    (ap (λ (r : ReleaseValue). r.view) (c.release.view_is ∙ c.in-Ok.ensures.leaves.release))
    (ap (λ (r : ReleaseValue). r.after) (c.release.view_is ∙ c.in-Ok.ensures.leaves.release)))

pub returns-clause-counters : goal.returns-clause-counters
returns-clause-counters c = rw (← c.self.view_is) (settled_counters c.self.inside.book c.commit.new.self
    c.self.inside.shards c.settle_all.new.shards c.args.finished (record {
      id = c.release.inside.id;
      view = c.release.inside.view;
      done = c.written_shards-written.result;
      after = c.release.inside.after;
    }) c.self.invariant (rw (← c.self.view_is) at c.requires) c.show_finished.ensures.promised c.show_run.ensures.run
    c.in-Ok.ensures.commits (map write_value c.deref_mut.result.now) (rw c.make_room.ensures at c.settle_all.ensures)
    (ap (map write_value) c.deref_mut.ensures.value ∙ c.in-Ok.ensures.leaves.writes)
    (ap (λ (r : ReleaseValue). r.id) (c.release.view_is ∙ c.in-Ok.ensures.leaves.release))
    (ap (λ (r : ReleaseValue). r.view) (c.release.view_is ∙ c.in-Ok.ensures.leaves.release))
    (ap (λ (r : ReleaseValue). r.after) (c.release.view_is ∙ c.in-Ok.ensures.leaves.release)))

pub returns-clause-leaving : goal.returns-clause-leaving
returns-clause-leaving c = settled_leaving c.self.inside.book c.commit.new.self c.self.inside.shards
    c.settle_all.new.shards c.args.finished (record {
      id = c.release.inside.id;
      view = c.release.inside.view;
      done = c.written_shards-written.result;
      after = c.release.inside.after;
    }) c.self.invariant (rw (← c.self.view_is) at c.requires) c.show_finished.ensures.promised c.show_run.ensures.run
    c.in-Ok.ensures.commits (map write_value c.deref_mut.result.now) (rw c.make_room.ensures at c.settle_all.ensures)
    (ap (map write_value) c.deref_mut.ensures.value ∙ c.in-Ok.ensures.leaves.writes)
    (ap (λ (r : ReleaseValue). r.id) (c.release.view_is ∙ c.in-Ok.ensures.leaves.release))
    (ap (λ (r : ReleaseValue). r.view) (c.release.view_is ∙ c.in-Ok.ensures.leaves.release))
    (ap (λ (r : ReleaseValue). r.after) (c.release.view_is ∙ c.in-Ok.ensures.leaves.release))

-- the call is at its place as it came
pub returns-clause-keeps : goal.returns-clause-keeps
returns-clause-keeps c = rw (← c.self.view_is) (subst (λ (o : Option Origin). Keeps o
    (success_message c.args.finished.xid c.args.finished.done.change.reply) c.self.inside.book.replies
    c.commit.new.self.replies) (came_so (record { book = c.self.inside.book; shards = c.self.inside.shards })
    (txn_of c.args.finished) (rw (← c.self.view_is) at c.requires)) c.in-Ok.ensures.commits.keeps)
