use Rattle.nfs_engine.proofs.CallSizes.{message-is}
use Rattle.nfs_engine.proofs.lengths.message_size.Goals as goal

pub returns : goal.returns
returns c = λ form. message-is c.args.message.now _ _ form (c.arguments_size.ensures form) c.saturating_add.ensures
