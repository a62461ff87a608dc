use Rattle.std.proofs.Common.{rules, tests, ◌∙◌, sym}
use Rattle.std.proofs.lemmas.Iterator.{YieldsList-from_slice}
use Rattle.std.proofs.lemmas.Iterator.Search.{any_from_yields_List}
use Rattle.nfs_machine.specs.Bytes.{same_bytes}
use Rattle.nfs_machine.specs.declared.exports.ExportText.{ExportText}
use Rattle.nfs_machine.proofs.ExportFaultLemmas.{fault_of-none}
use Rattle.nfs_machine.proofs.export_faults.check_export.Goals as goal

pub returns-else-any : goal.returns-else-any
returns-else-any c =
    let any = any_from_yields_List (λ (e : ExportText). same_bytes e.path c.args.text.now.path) _ _ c.any.result
    c.any.ensures.ran (YieldsList-from_slice c.args.earlier.now cc) (λ x b q k. search (rules, tests)) in
    fault_of-none c.args.earlier.now c.args.text.now (search rules) (search rules) (search rules) (sym any
    ∙ c.if-any.false)
