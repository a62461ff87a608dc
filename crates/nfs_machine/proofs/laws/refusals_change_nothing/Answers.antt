use Rattle.nfs_machine.proofs.RefusedCallLemmas.{refusals_unchanged}
use Rattle.nfs_machine.proofs.laws.refusals_change_nothing.Goals as goal

pub returns : goal.returns
returns c = refusals_unchanged
