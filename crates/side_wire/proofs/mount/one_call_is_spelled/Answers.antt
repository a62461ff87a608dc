use Rattle.side_wire.proofs.MountLaws.{mount_spells_one_call}
use Rattle.side_wire.proofs.mount.one_call_is_spelled.Goals as goal

pub returns : goal.returns
returns c = mount_spells_one_call
