use Rattle.std.proofs.Common.{◌≡◌, ◌∙◌, ◌&&◌, not, true, ap, is_some, option_map, sym}
use Rattle.std.specs.Arc.{arc_value}
use Rattle.nfs_tables.specs.Tables.{entries}
use Rattle.nfs_objects.specs.Values.{write_value}
use Rattle.nfs_engine.proofs.SlotNeedLemmas.{slot-found}
use Rattle.nfs_engine.proofs.StandingCountLemmas.{given-some}
use Rattle.nfs_engine.specs.Tables.{ObjectsValue, needs_slot}
use Rattle.nfs_engine.proofs.objects.Objects.needs_slot.Goals as goal

pub returns-then-is_some : goal.returns-then-is_some
returns-then-is_some c =
    let puts : is_some (option_map arc_value c.args.write.now.object) ≡ true =
    sym (given-some arc_value c.args.write.now.object c.is_some.result c.is_some.ensures) ∙ c.if-is_some.true in
    let there = c.contains_key.ensures ∙ slot-found c.args.write.now.address (entries c.self.inside.slots) in
    (λ i. sym puts i && not (there i))
    ∙ ap (λ (t : ObjectsValue). needs_slot t.slots (write_value c.args.write.now)) c.self.view_is
