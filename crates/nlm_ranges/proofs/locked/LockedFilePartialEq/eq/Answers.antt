use Rattle.std.proofs.Common.{rules}
use Rattle.nlm_ranges.specs.SameLaws.{locked_decides, told_so}
use Rattle.nlm_ranges.proofs.locked.LockedFilePartialEq.eq.Goals as goal

pub returns-then-self-other-2-clause-same : goal.returns-then-self-other-2-clause-same
returns-then-self-other-2-clause-same c = told_so locked_decides _ _ _ (search rules)

pub returns-else-self-other-2-clause-same : goal.returns-else-self-other-2-clause-same
returns-else-self-other-2-clause-same c = told_so locked_decides _ _ _ (search rules)
