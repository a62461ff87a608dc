use Rattle.nfs_machine.proofs.StateBoundsLemmas.{
  locks_stay_fit,
  mounts_stay_fit,
  opening_fits,
  chains_stay_fit,
  spelled_calls_fit,
}
use Rattle.nfs_machine.proofs.laws.bounds_are_kept.Goals as goal

pub returns-clause-opening : goal.returns-clause-opening
returns-clause-opening c = opening_fits

pub returns-clause-calls : goal.returns-clause-calls
returns-clause-calls c = spelled_calls_fit

pub returns-clause-mounts : goal.returns-clause-mounts
returns-clause-mounts c = mounts_stay_fit

pub returns-clause-locks : goal.returns-clause-locks
returns-clause-locks c = locks_stay_fit

pub returns-clause-chains : goal.returns-clause-chains
returns-clause-chains c = chains_stay_fit
