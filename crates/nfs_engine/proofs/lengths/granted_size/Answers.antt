use Rattle.nfs_engine.proofs.CallSizes.{granted-is}
use Rattle.nfs_engine.proofs.lengths.granted_size.Goals as goal

pub returns : goal.returns
returns c = λ form. granted-is c.args.arguments.now _ _ _ _ form (c.opaque_size.ensures form.0)
    c.saturating_add.ensures (c.lock_size.ensures form.1) c.saturating_add-2.ensures
