use Rattle.std.proofs.Common.{Some, option_map, sym, ap, ◌∙◌}
use Rattle.nfs_objects.specs.Stands.{map_of}
use Rattle.nfs_objects.proofs.draft.Draft.map.Goals as goal

pub returns : goal.returns
returns c = ap (option_map map_of) c.in_ok-find.ensures ∙ ap Some (sym c.map_known.ensures)
