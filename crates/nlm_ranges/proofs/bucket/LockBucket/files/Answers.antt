use Rattle.std.proofs.Common.{subst}
use Rattle.nlm_ranges.proofs.BucketPartsLemmas.{parts-bucket}
use Rattle.nlm_ranges.proofs.bucket.LockBucket.files.Goals as goal
use Rattle.nlm_ranges.specs.Buckets.{IsBucket}

pub returns-clause-bucket : goal.returns-clause-bucket
returns-clause-bucket c =
    subst IsBucket c.self.view_is
    (parts-bucket c.self.inside.given c.self.inside.parts.items c.self.invariant.0 c.self.invariant.1)
