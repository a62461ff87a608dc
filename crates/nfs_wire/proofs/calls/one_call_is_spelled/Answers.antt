use Rattle.nfs_wire.proofs.CallLaws.{spells_one_call}
use Rattle.nfs_wire.proofs.calls.one_call_is_spelled.Goals as goal

pub returns : goal.returns
returns c = spells_one_call
