use Rattle.nfs_machine.proofs.StepKeepsLemmas.{steps_keep_cookies}
use Rattle.nfs_machine.proofs.laws.entries_keep_cookies.Goals as goal

pub returns : goal.returns
returns c = steps_keep_cookies
