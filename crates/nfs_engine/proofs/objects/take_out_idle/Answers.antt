use Rattle.std.proofs.Common.{◌∙◌, None, ap, is_some, not, refl, sym}
use Rattle.std.specs.Arc.{arc_value}
use Rattle.nfs_tables.specs.Tables.{entries}
use Rattle.nfs_objects.specs.Values.{write_value}
use Rattle.nfs_engine.proofs.AddressMapLemmas.{found-turned}
use Rattle.nfs_engine.proofs.StandingCountLemmas.{given-some}
use Rattle.nfs_engine.proofs.TidySlotLemmas.{takes-out}
use Rattle.nfs_engine.specs.Tables.{kept_slots, kept_value}
use Rattle.nfs_engine.proofs.objects.take_out_idle.Goals as goal

pub returns-then-is_idle : goal.returns-then-is_idle
returns-then-is_idle c =
    let write = c.args.write.now in
    takes-out (kept_slots (entries c.args.slots.now)) (kept_slots (entries c.remove.new.self)) (write_value write)
    (found-turned kept_value c.args.slots.now c.remove.new.self write.address None c.remove.ensures.changes)
    (sym (given-some arc_value write.object (is_some write.object) refl) ∙ c.is_none.ensures ∙ ap not c.if-is_none.true)
    (sym c.is_idle.ensures ∙ c.if-is_idle.true)
