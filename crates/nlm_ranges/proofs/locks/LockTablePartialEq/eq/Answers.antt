use Rattle.std.proofs.Common.{rules}
use Rattle.nlm_ranges.specs.SameLaws.{locks_decide, told_so}
use Rattle.nlm_ranges.proofs.locks.LockTablePartialEq.eq.Goals as goal

pub returns-clause-same : goal.returns-clause-same
returns-clause-same c = told_so locks_decide _ _ _ (search rules)
