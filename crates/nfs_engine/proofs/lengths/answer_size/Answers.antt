use Rattle.nfs_engine.proofs.CallSizes.{plain-is}
use Rattle.nfs_engine.proofs.lengths.answer_size.Goals as goal

pub returns : goal.returns
returns c = λ form. plain-is c.args.answer.now _ _ form (c.opaque_size.ensures form) c.saturating_add.ensures
