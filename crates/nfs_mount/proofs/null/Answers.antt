use Rattle.nfs_mount.proofs.MountListLemmas.{null-promised}
use Rattle.nfs_mount.proofs.null.Goals as goal

pub returns-clause-ends : goal.returns-clause-ends
returns-clause-ends c =
    rw c.answer.ensures.value (null-promised c.args.draft c.requires c.answer.ensures.held c.answer.ensures.given)
