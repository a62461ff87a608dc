use Rattle.nfs_machine.proofs.MountSizes.{mount_replies_bounded}
use Rattle.nfs_machine.proofs.laws.mount_replies_are_bounded.Goals as goal

pub returns : goal.returns
returns c = mount_replies_bounded
