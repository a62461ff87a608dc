use Rattle.std.proofs.Common.{rules}
use Rattle.nlm_ranges.specs.SameLaws.{file_decides, told_so}
use Rattle.nlm_ranges.proofs.file.OneFilePartialEq.eq.Goals as goal

pub returns-then-eq-3-clause-same : goal.returns-then-eq-3-clause-same
returns-then-eq-3-clause-same c = told_so file_decides _ _ _ (search rules)

pub returns-else-eq-3-clause-same : goal.returns-else-eq-3-clause-same
returns-else-eq-3-clause-same c = told_so file_decides _ _ _ (search rules)
