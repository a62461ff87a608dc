use Rattle.nfs_engine.proofs.CallSizes.{denied-is, undenied-is}
use Rattle.nfs_engine.proofs.lengths.tested_size.Goals as goal

pub returns-in-Denied : goal.returns-in-Denied
returns-in-Denied c = λ form. denied-is c.args.tested.now c.in-Denied.holder _ _ _ _ _ c.in-Denied.is form
    (c.opaque_size.ensures form.0) c.saturating_add-size.ensures c.opaque_size-in-Denied.ensures
    c.saturating_add.ensures c.saturating_add-in-Denied.ensures

pub returns-in_default : goal.returns-in_default
returns-in_default c = λ form. undenied-is c.args.tested.now _ _ c.in_default.not-Denied form
    (c.opaque_size.ensures form.0) c.saturating_add-size.ensures
