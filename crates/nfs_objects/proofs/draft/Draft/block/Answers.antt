use Rattle.std.proofs.Common.{Some, option_map, sym, ap, ◌∙◌}
use Rattle.nfs_objects.specs.Stands.{block_of}
use Rattle.nfs_objects.proofs.draft.Draft.block.Goals as goal

pub returns : goal.returns
returns c = ap (option_map block_of) c.in_ok-find.ensures ∙ ap Some (sym c.block_known.ensures)
