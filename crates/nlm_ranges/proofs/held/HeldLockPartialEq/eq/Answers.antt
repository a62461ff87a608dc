use Rattle.std.proofs.Common.{rules}
use Rattle.nlm_ranges.specs.SameLaws.{lock_decides, told_so}
use Rattle.nlm_ranges.proofs.held.HeldLockPartialEq.eq.Goals as goal

pub returns-then-self-other-3-clause-same : goal.returns-then-self-other-3-clause-same
returns-then-self-other-3-clause-same c = told_so lock_decides _ _ _ (search rules)

pub returns-else-self-other-3-clause-same : goal.returns-else-self-other-3-clause-same
returns-else-self-other-3-clause-same c = told_so lock_decides _ _ _ (search rules)
