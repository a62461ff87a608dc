use Rattle.nfs_engine.proofs.CallSizes.{lock-is}
use Rattle.nfs_engine.proofs.lengths.lock_size.Goals as goal

pub returns : goal.returns
returns c = λ form. lock-is c.args.lock.now _ _ _ _ _ _ form (c.opaque_size.ensures form.0)
    (c.opaque_size-2.ensures form.1) c.saturating_add.ensures (c.opaque_size-3.ensures form.2)
    c.saturating_add-2.ensures
    c.saturating_add-3.ensures
