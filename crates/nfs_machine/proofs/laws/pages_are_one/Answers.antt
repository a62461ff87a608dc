use Rattle.nfs_machine.proofs.PageLemmas.{one-page, some-page}
use Rattle.nfs_machine.proofs.laws.pages_are_one.Goals as goal

pub returns-clause-one : goal.returns-clause-one
returns-clause-one c = one-page

pub returns-clause-exist : goal.returns-clause-exist
returns-clause-exist c = some-page
