use Rattle.std.proofs.Common.{rules, tests}
use Rattle.std.proofs.lemmas.Iterator.{YieldsList-from_slice}
use Rattle.std.proofs.lemmas.Iterator.Search.{find_from_yields_List}
use Rattle.nfs_machine.specs.Bytes.{same_bytes}
use Rattle.nfs_machine.specs.Exports.{LivingExport}
use Rattle.nfs_objects.proofs.exports.ExportTable.with_path.Goals as goal

pub returns : goal.returns
returns c =
    find_from_yields_List (λ (e : LivingExport). same_bytes e.path c.args.path.now) _ _ c.find.result c.find.ensures.ran
    (YieldsList-from_slice c.args.self.now.exports cc) (λ x b q k. search (rules, tests))
