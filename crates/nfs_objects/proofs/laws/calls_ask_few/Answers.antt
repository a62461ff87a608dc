use Rattle.nfs_objects.proofs.AsksFewLemmas.{asks-few, names-few, names-stay}
use Rattle.nfs_objects.proofs.laws.calls_ask_few.Goals as goal

pub returns-clause-asked : goal.returns-clause-asked
returns-clause-asked c = asks-few

pub returns-clause-named : goal.returns-clause-named
returns-clause-named c = names-few

pub returns-clause-stay : goal.returns-clause-stay
returns-clause-stay c = names-stay
