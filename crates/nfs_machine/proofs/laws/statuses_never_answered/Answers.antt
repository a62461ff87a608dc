use Rattle.nfs_machine.proofs.StatusLemmas.{mount_never_answered, nfs_never_answers}
use Rattle.nfs_machine.proofs.laws.statuses_never_answered.Goals as goal

pub returns-clause-nfs : goal.returns-clause-nfs
returns-clause-nfs c = nfs_never_answers

pub returns-clause-mount : goal.returns-clause-mount
returns-clause-mount c = mount_never_answered
