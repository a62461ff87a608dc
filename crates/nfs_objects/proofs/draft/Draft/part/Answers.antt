use Rattle.std.proofs.Common.{Some, option_map, sym, ap, ◌∙◌}
use Rattle.nfs_objects.specs.Stands.{part_of}
use Rattle.nfs_objects.proofs.draft.Draft.part.Goals as goal

pub returns : goal.returns
returns c = ap (option_map part_of) c.in_ok-find.ensures ∙ ap Some (sym c.part_known.ensures)
