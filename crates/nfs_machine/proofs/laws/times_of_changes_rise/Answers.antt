use Rattle.nfs_machine.proofs.StepKeepsLemmas.{steps_show_changes, steps_touch_once}
use Rattle.nfs_machine.proofs.ChangeTimeRisesLemmas.{never_fall, rise}
use Rattle.nfs_machine.proofs.ChangeTimeLemmas.{chains_never_fall}
use Rattle.nfs_machine.proofs.laws.times_of_changes_rise.Goals as goal

pub returns-clause-never_fall : goal.returns-clause-never_fall
returns-clause-never_fall c = never_fall

pub returns-clause-rise : goal.returns-clause-rise
returns-clause-rise c = rise

pub returns-clause-steps : goal.returns-clause-steps
returns-clause-steps c = steps_touch_once

pub returns-clause-shown : goal.returns-clause-shown
returns-clause-shown c = steps_show_changes

pub returns-clause-chains : goal.returns-clause-chains
returns-clause-chains c = chains_never_fall
