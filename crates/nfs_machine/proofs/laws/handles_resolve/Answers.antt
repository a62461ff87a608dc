use Rattle.nfs_machine.proofs.AnsweredHandleLemmas.{mnt_handles_resolve, nfs_handles_resolve}
use Rattle.nfs_machine.proofs.laws.handles_resolve.Goals as goal

pub returns-clause-nfs : goal.returns-clause-nfs
returns-clause-nfs c = nfs_handles_resolve c.handles_go_both_ways.ensures.read

pub returns-clause-mount : goal.returns-clause-mount
returns-clause-mount c = mnt_handles_resolve c.handles_go_both_ways.ensures.read
