use Rattle.nfs_machine.proofs.StepKeepsLemmas.{chains_keep_waiting, steps_keep_waiting}
use Rattle.nfs_machine.proofs.OpeningStateLemmas.{nothing_waits}
use Rattle.nfs_machine.proofs.laws.waiting_requests_conflict.Goals as goal

pub returns-clause-steps : goal.returns-clause-steps
returns-clause-steps c = steps_keep_waiting

pub returns-clause-chains : goal.returns-clause-chains
returns-clause-chains c = chains_keep_waiting

pub returns-clause-opening : goal.returns-clause-opening
returns-clause-opening c = nothing_waits
