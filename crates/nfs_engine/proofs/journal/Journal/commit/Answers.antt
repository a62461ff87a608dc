use Rattle.std.proofs.Common.{◌≤◌, List, Option, subst, sym}
use Rattle.nfs_objects.specs.declared.address.Addr.{Addr}
use Rattle.nfs_objects.specs.declared.object.Object.{Object}
use Rattle.nfs_engine.specs.Calls.{FinishedValue}
use Rattle.nfs_engine.specs.Journal.{JournalValue}
use Rattle.nfs_engine.specs.Tables.{slots_needed}
use Rattle.nfs_engine.proofs.journal.Journal.commit.Goals as goal

-- the copied writes need the slots that the call's own need
pub install-requires-clause-room : goal.install-requires-clause-room
install-requires-clause-room c =
    subst (λ (ws : List (Addr × Option Object)). slots_needed c.self.inside.objects.slots ws ≤
    c.self.inside.objects.room) (sym c.finished.invariant.1.same)
    (subst (λ (f : FinishedValue). slots_needed c.self.inside.objects.slots f.done.change.writes ≤
    c.self.inside.objects.room) (sym c.finished.view_is)
    (subst (λ (j : JournalValue). slots_needed j.objects.slots c.args.finished.done.change.writes ≤ j.objects.room)
    (sym c.self.view_is) c.requires.room.objects))
