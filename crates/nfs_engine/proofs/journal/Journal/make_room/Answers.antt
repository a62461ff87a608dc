use Rattle.std.proofs.Common.{◌≤◌, map, subst, sym, true≢false}
use Rattle.nfs_objects.specs.Values.{write_value}
use Rattle.nfs_engine.specs.Journal.{JournalValue}
use Rattle.nfs_engine.specs.Tables.{slots_needed}
use Rattle.nfs_engine.proofs.journal.Journal.make_room.Goals as goal

pub returns-in_err-make_room-clause-enough : goal.returns-in_err-make_room-clause-enough
returns-in_err-make_room-clause-enough c = λ there. absurd (true≢false (sym (c.in_err-make_room.ensures.enough
    (subst (λ (j : JournalValue). slots_needed j.objects.slots (map write_value c.args.writes.now) ≤ j.objects.room)
    (sym c.self.view_is) there.objects))))
