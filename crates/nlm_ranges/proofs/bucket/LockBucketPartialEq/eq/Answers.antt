use Rattle.std.proofs.Common.{rules}
use Rattle.nlm_ranges.specs.SameLaws.{bucket_decides, told_so}
use Rattle.nlm_ranges.proofs.bucket.LockBucketPartialEq.eq.Goals as goal

pub returns-then-self-other-clause-same : goal.returns-then-self-other-clause-same
returns-then-self-other-clause-same c = told_so bucket_decides _ _ _ (search rules)
