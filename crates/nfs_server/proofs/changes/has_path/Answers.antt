use Rattle.std.proofs.Common.{rules, tests, ◌∙◌}
use Rattle.std.proofs.lemmas.Iterator.{YieldsList-from_slice}
use Rattle.std.proofs.lemmas.Iterator.Search.{any_from_yields_List}
use Rattle.nfs_machine.specs.Bytes.{same_bytes}
use Rattle.nfs_machine.specs.declared.exports.Export.{Export}
use Rattle.nfs_server.proofs.ChangesLemmas.{any_path}
use Rattle.nfs_server.proofs.changes.has_path.Goals as goal

pub returns : goal.returns
returns c =
    any_from_yields_List (λ (e : Export). same_bytes e.path c.args.path.now) _ _ c.any.result c.any.ensures.ran
    (YieldsList-from_slice c.args.exports.now cc) (λ x b q k. search (rules, tests))
    ∙ any_path c.args.exports.now c.args.path.now
