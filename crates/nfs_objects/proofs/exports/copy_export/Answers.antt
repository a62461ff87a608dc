use Rattle.std.specs.List.{each_same}
use Rattle.nfs_objects.proofs.ExportTableLemmas.{same-export}
use Rattle.nfs_objects.proofs.exports.copy_export.Goals as goal

pub returns : goal.returns
returns c =
    same-export c.in_ok-clone.field-0 c.in_ok-clone-2.field-0.items c.args.export.now c.in_ok-clone.ensures.cases
    (each_same _ _ c.in_ok-clone-2.ensures.cases.0)
