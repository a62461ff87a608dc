use Rattle.nfs_machine.proofs.AskedCallLemmas.{asked_once}
use Rattle.nfs_machine.proofs.laws.arrivals_ask_once.Goals as goal

pub returns : goal.returns
returns c = asked_once c.one_call_is_spelled.ensures c.one_call_is_spelled-2.ensures c.one_call_is_spelled-3.ensures
