use Rattle.std.proofs.Common.{option_map, sym, true≢false, ◌∙◌}
use Rattle.std.specs.Arc.{arc_value}
use Rattle.nfs_tables.specs.Tables.{entries}
use Rattle.nfs_engine.proofs.SlotWriteLemmas.{one-count, one-store, one-tidy}
use Rattle.nfs_engine.specs.Tables.{kept_slots}
use Rattle.nfs_engine.proofs.objects.write.Goals as goal

pub make-standing-requires-clause-room : goal.make-standing-requires-clause-room
make-standing-requires-clause-room c = λ needs. absurd (true≢false (sym needs ∙ c.requires.slot))

pub returns-clause-store : goal.returns-clause-store
returns-clause-store c =
    one-store (kept_slots (entries c.args.slots.now)) (kept_slots (entries c.make-standing.new.slots))
    (kept_slots (entries c.take_out_idle.new.slots)) c.args.address (option_map arc_value c.args.object)
    c.make-standing.ensures.puts c.take_out_idle.ensures

pub returns-clause-count : goal.returns-clause-count
returns-clause-count c =
    one-count (kept_slots (entries c.args.slots.now)) (kept_slots (entries c.make-standing.new.slots))
    (kept_slots (entries c.take_out_idle.new.slots)) c.args.address (option_map arc_value c.args.object)
    c.make-standing.ensures.puts c.take_out_idle.ensures c.make-standing.result c.make-standing.ensures.count

pub returns-clause-tidy : goal.returns-clause-tidy
returns-clause-tidy c =
    one-tidy (kept_slots (entries c.args.slots.now)) (kept_slots (entries c.make-standing.new.slots))
    (kept_slots (entries c.take_out_idle.new.slots)) c.args.address (option_map arc_value c.args.object)
    c.make-standing.ensures.puts c.take_out_idle.ensures c.requires.tidy
