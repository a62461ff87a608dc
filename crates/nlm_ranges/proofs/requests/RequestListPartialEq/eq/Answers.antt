use Rattle.std.proofs.Common.{rules}
use Rattle.nlm_ranges.specs.SameLaws.{lists_equal, told_so}
use Rattle.nlm_ranges.proofs.requests.RequestListPartialEq.eq.Goals as goal

pub returns-clause-same : goal.returns-clause-same
returns-clause-same c = told_so lists_equal _ _ _ (search rules)
