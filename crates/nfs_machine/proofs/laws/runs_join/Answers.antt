use Rattle.nfs_machine.proofs.RunChainLemmas.{run-append}
use Rattle.nfs_machine.proofs.laws.runs_join.Goals as goal

pub returns : goal.returns
returns c = run-append
