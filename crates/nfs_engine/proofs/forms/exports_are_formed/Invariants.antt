use Rattle.std.proofs.Common.{take}
use Rattle.std.specs.List.{All}
use Rattle.side_wire.specs.Mount.{HasExportNodeForm}
use Rattle.nfs_engine.proofs.forms.exports_are_formed.Given as goal

abbrev pub invariant-loop-export : goal.invariant-loop-export
invariant-loop-export l = All HasExportNodeForm (take l.export-index l.exports)
