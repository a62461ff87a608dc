use Rattle.std.proofs.Common.{◌==◌, rules, tests}
use Rattle.std.proofs.lemmas.Iterator.{YieldsList-from_slice}
use Rattle.std.proofs.lemmas.Iterator.Search.{find_from_yields_List}
use Rattle.nfs_machine.specs.Exports.{LivingExport}
use Rattle.nfs_inodes.proofs.found.export_at.Goals as goal

pub returns : goal.returns
returns c =
    find_from_yields_List (λ (e : LivingExport). e.number == c.args.number) _ _ c.find.result c.find.ensures.ran
    (YieldsList-from_slice c.args.exports.now cc) (λ x b q k. search (rules, tests))
