use Rattle.nfs_machine.proofs.PostedFormLemmas.{nlm_messages_form}
use Rattle.nfs_machine.proofs.SideReplyLemmas.{mount_replies_form, nlm_replies_form}
use Rattle.nfs_machine.proofs.laws.side_replies_have_forms.Goals as goal

pub returns-clause-mount : goal.returns-clause-mount
returns-clause-mount c = mount_replies_form

pub returns-clause-nlm : goal.returns-clause-nlm
returns-clause-nlm c = nlm_replies_form

pub returns-clause-messages : goal.returns-clause-messages
returns-clause-messages c = nlm_messages_form
