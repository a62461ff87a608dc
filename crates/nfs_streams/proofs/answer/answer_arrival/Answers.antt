use Rattle.nfs_streams.proofs.RecordAnswerLemmas.{told_answered, told_only, told_refusal, refused_owed, untold_nothing}
use Rattle.nfs_streams.proofs.answer.answer_arrival.Goals as goal

pub returns-in-Refused-clause-ok : goal.returns-in-Refused-clause-ok
returns-in-Refused-clause-ok c =
    told_refusal _ _ _ _ c.requires.record c.show_read.ensures c.requires.room
    c.in-Refused.ensures.answers _ c.told.ensures

pub returns-in-Refused-clause-err : goal.returns-in-Refused-clause-err
returns-in-Refused-clause-err c = untold_nothing _ _ _ _ c.in-Refused.ensures.answers c.told.result

pub returns-in-Refused-clause-owed : goal.returns-in-Refused-clause-owed
returns-in-Refused-clause-owed c =
    refused_owed _ c.in-Refused.ensures.answers.0 c.requires.record c.show_read.ensures
    c.in-Refused.ensures.answers.1
    c.told.result

pub returns-in_default-clause-ok : goal.returns-in_default-clause-ok
returns-in_default-clause-ok c =
    told_answered _ _ _ _ c.requires.record c.show_read.ensures c.requires.room c.execute.ensures.answers
    (told_only _ c.in_default.not-Refused)
