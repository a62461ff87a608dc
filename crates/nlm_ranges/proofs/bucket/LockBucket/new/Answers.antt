use Rattle.std.proofs.Common.{arith, subst, sym}
use Rattle.nlm_ranges.proofs.BucketPartsLemmas.{no-parts}
use Rattle.nlm_ranges.proofs.bucket.LockBucket.new.Goals as goal
use Rattle.nlm_ranges.specs.Parts.{AreParts}

pub invariant_of-result : goal.invariant_of-result
invariant_of-result c = (omega arith, subst AreParts (sym c.new.ensures.items) no-parts)
