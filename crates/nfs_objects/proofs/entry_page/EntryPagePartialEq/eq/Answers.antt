use Rattle.std.proofs.Common.{rules}
use Rattle.nfs_objects.specs.SameLaws.{entries_decide, told_so}
use Rattle.nfs_objects.proofs.entry_page.EntryPagePartialEq.eq.Goals as goal

pub returns-clause-same : goal.returns-clause-same
returns-clause-same c = told_so entries_decide _ _ _ (search rules)
