use Rattle.std.proofs.Common.{ℕ, ◌-◌, ◌^◌, ◌∙◌, List, ap, arith, min, sum_by, sym}
use Rattle.std.proofs.lemmas.List.{take_all}
use Rattle.nfs_machine.specs.Exports.{export_value}
use Rattle.nfs_machine.specs.declared.exports.Export.{Export}
use Rattle.nfs_engine.proofs.SaturatingSumLemmas.{mapped-sum, sum-more}
use Rattle.nfs_engine.specs.Commits.{export_bytes}
use Rattle.nfs_engine.proofs.lengths.exports_size.Goals as goal

abbrev bytes_of : Export → ℕ
bytes_of e = export_bytes (export_value e)

pub loop-export-preserved : goal.loop-export-preserved
loop-export-preserved c = c.saturating_add-size.ensures ∙ sum-more bytes_of c.args.exports.now
    c.loop-export.export-index c.export-item.result _ _ (omega arith) c.export-item.is c.loop-export.invariant
    c.export_size.ensures

pub returns : goal.returns
returns c = c.loop-export.invariant ∙ ap (λ (es : List Export). min (sum_by bytes_of es) (2 ^ 64 - 1))
    (take_all c.loop-export.export-index c.args.exports.now (omega arith))
    ∙ ap (λ n. min n (2 ^ 64 - 1)) (sym (mapped-sum export_bytes export_value c.args.exports.now))
