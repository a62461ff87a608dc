use Rattle.nfs_machine.proofs.HandleBytesLemmas.{handle_of-written}
use Rattle.nfs_machine.proofs.laws.handles_go_both_ways.Goals as goal

pub returns-clause-written : goal.returns-clause-written
returns-clause-written c = handle_of-written
