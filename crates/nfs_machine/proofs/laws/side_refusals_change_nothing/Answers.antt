use Rattle.nfs_machine.proofs.PostedRefusalLemmas.{posted_refusals_unchanged}
use Rattle.nfs_machine.proofs.SideReplyLemmas.{mount_refusals_unchanged, nlm_refusals_unchanged}
use Rattle.nfs_machine.proofs.laws.side_refusals_change_nothing.Goals as goal

pub returns-clause-mount : goal.returns-clause-mount
returns-clause-mount c = mount_refusals_unchanged

pub returns-clause-nlm : goal.returns-clause-nlm
returns-clause-nlm c = nlm_refusals_unchanged

pub returns-clause-posted : goal.returns-clause-posted
returns-clause-posted c = posted_refusals_unchanged
