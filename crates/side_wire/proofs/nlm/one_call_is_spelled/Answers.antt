use Rattle.side_wire.proofs.NlmLaws.{nlm_spells_one_call}
use Rattle.side_wire.proofs.nlm.one_call_is_spelled.Goals as goal

pub returns : goal.returns
returns c = nlm_spells_one_call
