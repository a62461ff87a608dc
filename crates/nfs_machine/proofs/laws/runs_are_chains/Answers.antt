use Rattle.nfs_machine.proofs.RunChainLemmas.{runs_are_chains}
use Rattle.nfs_machine.proofs.laws.runs_are_chains.Goals as goal

pub returns : goal.returns
returns c = runs_are_chains
