use Rattle.std.proofs.Common.{rules}
use Rattle.nlm_ranges.specs.SameLaws.{shares_decide, told_so}
use Rattle.nlm_ranges.proofs.shares.ShareTablePartialEq.eq.Goals as goal

pub returns-clause-same : goal.returns-clause-same
returns-clause-same c = told_so shares_decide _ _ _ (search rules)
