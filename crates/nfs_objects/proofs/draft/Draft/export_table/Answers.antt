use Rattle.std.proofs.Common.{Some, option_map, ap, ◌∙◌}
use Rattle.nfs_objects.specs.Stands.{export_table_of}
use Rattle.nfs_objects.proofs.draft.Draft.export_table.Goals as goal

pub returns : goal.returns
returns c = record {
  known = ap (option_map export_table_of) c.in_ok-find.ensures ∙ ap Some c.export_table_known.ensures.of;
  table = c.export_table_known.ensures.table;
}
