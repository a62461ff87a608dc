use Rattle.std.proofs.Common.{◌∙◌, arith, option_map}
use Rattle.std.proofs.lemmas.List.{length-map}
use Rattle.std.specs.Arc.{arc_value}
use Rattle.nfs_tables.specs.Tables.{entries}
use Rattle.nfs_objects.specs.Values.{write_value}
use Rattle.nfs_objects.specs.declared.address.Addr.{Addr}
use Rattle.nfs_engine.proofs.StandingCountLemmas.{given-some, put-count}
use Rattle.nfs_engine.proofs.TidySlotLemmas.{puts-store}
use Rattle.nfs_engine.specs.Standing.{count_after}
use Rattle.nfs_engine.specs.Tables.{KeptValue, kept_slots, kept_value}
use Rattle.nfs_engine.proofs.objects.make.Goals as goal

pub returns-clause-count : goal.returns-clause-count
returns-clause-count c =
    let old = kept_slots (entries c.args.slots.now) in
    let new = kept_slots (entries c.put-stood.new.slots) in
    let stands = given-some arc_value c.args.write.object c.is_some-stands.result c.is_some-stands.ensures in
    put-count old new c.args.write.address (option_map arc_value c.args.write.object) c.args.standing
    c.count_after.result c.requires.count (puts-store old new (write_value c.args.write) c.put-stood.ensures.puts)
    (omega (
      arith,
      length-map {B = Addr × KeptValue} (entries c.put-stood.new.slots) (λ e. (e.0, kept_value e.1)),
      c.len-slots.ensures.len,
      c.len-slots.ensures.small,
    ))
    (c.count_after.ensures ∙ (λ i. count_after c.args.standing (c.put-stood.ensures.stood i) (stands i)))
