use Rattle.std.proofs.Common.{◌∙◌, Some, option_map, sym}
use Rattle.std.specs.Arc.{arc_value}
use Rattle.nfs_objects.proofs.NamePlaceLemmas.{address-tells, place-tells}
use Rattle.nfs_objects.proofs.modes.part_address.Goals as goal

pub returns : goal.returns
returns c =
    let header = c.in_ok-header_known.field-0.now in
    sym (address-tells c.args.directory (option_map arc_value c.args.object.now) c.args.name.now (Some header)
    c.in_ok-header_known.ensures
    ∙ place-tells header.entries c.args.directory c.args.name.now (Some c.in_ok-place.place) c.in_ok-place.ensures)
