use Rattle.side_wire.proofs.MessageLaws.{callbacks_are_calls}
use Rattle.side_wire.proofs.message.callbacks_are_calls.Goals as goal

pub returns : goal.returns
returns c = callbacks_are_calls
