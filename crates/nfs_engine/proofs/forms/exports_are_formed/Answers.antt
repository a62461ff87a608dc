use Rattle.std.proofs.Common.{List, arith, refl, subst}
use Rattle.std.proofs.lemmas.List.{take_all}
use Rattle.std.proofs.lemmas.List.Elements.{All-more}
use Rattle.std.specs.List.{All}
use Rattle.side_wire.specs.Mount.{HasExportNodeForm}
use Rattle.side_wire.specs.declared.mount.lists.ExportNode.{ExportNode}
use Rattle.nfs_engine.proofs.forms.exports_are_formed.Goals as goal

pub loop-export-preserved : goal.loop-export-preserved
loop-export-preserved c = All-more HasExportNodeForm c.args.exports.now c.loop-export.export-index
    c.export-item.result (omega arith) c.loop-export.invariant
    (subst HasExportNodeForm c.export-item.is (c.if-not-export_is_formed.ensures refl))

pub returns : goal.returns
returns c = λ yes. subst (λ (es : List ExportNode). All HasExportNodeForm es)
    (take_all c.loop-export.export-index c.args.exports.now (omega arith)) c.loop-export.invariant
