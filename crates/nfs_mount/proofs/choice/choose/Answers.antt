use Rattle.std.proofs.Common.{refl}
use Rattle.std.proofs.lemmas.Option.{slice_get_read}
use Rattle.nfs_machine.specs.Paths.{parts}
use Rattle.nfs_mount.proofs.BestMatchLemmas.{best_of_all, best_step}
use Rattle.nfs_mount.proofs.choice.choose.Goals as goal

pub loop-export-preserved : goal.loop-export-preserved
loop-export-preserved c =
    let at = slice_get_read c.args.exports.now _ c.loop-export.export-index _ refl c.loop-export-test.true
    c.export-item.is in
    rw c.deeper-best.ensures
    (best_step c.args.exports.now c.args.host.now (parts c.args.path.now) c.loop-export.export-index
    c.export-item.result at _ _ c.loop-export.invariant c.lead.ensures)

pub returns : goal.returns
returns c = λ apart.
    best_of_all c.args.exports.now c.args.host.now (parts c.args.path.now) c.loop-export.export-index
    c.loop-export.best c.loop-export-test.false apart c.loop-export.invariant
