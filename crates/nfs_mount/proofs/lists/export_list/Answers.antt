use Rattle.nfs_mount.proofs.MountListLemmas.{listed-next}
use Rattle.nfs_mount.proofs.lists.export_list.Goals as goal

pub loop-export-preserved : goal.loop-export-preserved
loop-export-preserved c =
    listed-next c.args.exports.now c.loop-export.export-index c.export-item.result c.loop-export.nodes.items _ _
    c.loop-export-test.true c.export-item.is c.loop-export.invariant c.in_ok-push.ensures.items
    c.in_ok-export_node.ensures
