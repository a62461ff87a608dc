use Rattle.std.proofs.Common.{Some, option_map, sym, ap, ◌∙◌}
use Rattle.nfs_objects.specs.Stands.{page_of}
use Rattle.nfs_objects.proofs.draft.Draft.page.Goals as goal

pub returns : goal.returns
returns c = ap (option_map page_of) c.in_ok-find.ensures ∙ ap Some (sym c.page_known.ensures)
