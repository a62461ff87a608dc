use Rattle.nfs_machine.proofs.EndingGrantsLemmas.{locks_end_grants, unlocks_end_grants}
use Rattle.nfs_machine.proofs.laws.answered_owners_have_no_grants.Goals as goal

pub returns-clause-locks : goal.returns-clause-locks
returns-clause-locks c = locks_end_grants

pub returns-clause-unlocks : goal.returns-clause-unlocks
returns-clause-unlocks c = unlocks_end_grants
