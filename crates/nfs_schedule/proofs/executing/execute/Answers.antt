use Rattle.nfs_schedule.proofs.CallAloneLemmas.{answers_begun, none_still_runs, repeat_rests}
use Rattle.nfs_schedule.proofs.executing.execute.Goals as goal

pub returns-in-Ok-Begin-clause-answers : goal.returns-in-Ok-Begin-clause-answers
returns-in-Ok-Begin-clause-answers c =
    let admits = rw c.in-Ok-Begin.field-0-is at c.in-Ok-Begin.ensures.admits in
    answers_begun _ _ _ _ _ admits _ c.carry_out.ensures.ends

pub returns-in-Ok-Repeat-clause-rest : goal.returns-in-Ok-Repeat-clause-rest
returns-in-Ok-Repeat-clause-rest c =
    let admits = rw c.in-Ok-Repeat.field-0-is at c.in-Ok-Repeat.ensures.admits in
    repeat_rests _ _ _ _ admits c.in-Ok-Repeat.ensures.shards c.requires.rest

pub returns-in-Ok-Repeat-clause-answers : goal.returns-in-Ok-Repeat-clause-answers
returns-in-Ok-Repeat-clause-answers c = rw c.in-Ok-Repeat.field-0-is at c.in-Ok-Repeat.ensures.admits

pub unreachable-requires : goal.unreachable-requires
unreachable-requires c =
    none_still_runs _ c.admit.new.self _ _ c.requires.rest
    (rw c.in-Ok-Running.field-0-is at c.in-Ok-Running.ensures.admits)
