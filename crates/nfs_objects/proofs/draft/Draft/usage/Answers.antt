use Rattle.std.proofs.Common.{Some, option_map, sym, ap, ◌∙◌}
use Rattle.nfs_objects.specs.Sums.{usage_of}
use Rattle.nfs_objects.proofs.draft.Draft.usage.Goals as goal

pub returns : goal.returns
returns c = ap (option_map usage_of) c.in_ok-find.ensures ∙ ap Some (sym c.usage_known.ensures)
