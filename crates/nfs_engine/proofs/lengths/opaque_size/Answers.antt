use Rattle.nfs_engine.proofs.CallSizes.{opaque-is}
use Rattle.nfs_engine.proofs.lengths.opaque_size.Goals as goal

pub returns : goal.returns
returns c = λ small. opaque-is c.args.bytes.now _ _ _ _ small c.len.ensures.value c.div_ceil-words.ensures
    c.saturating_mul.ensures c.saturating_add.ensures
