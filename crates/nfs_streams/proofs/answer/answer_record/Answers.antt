use Rattle.std.proofs.Common.{[]}
use Rattle.nfs_streams.proofs.ClearedLemmas.{answered_on}
use Rattle.nfs_streams.proofs.OneRecordLemmas.{record_answered, record_unanswered}
use Rattle.nfs_streams.proofs.answer.answer_record.Goals as goal

pub returns-clause-ok : goal.returns-clause-ok
returns-clause-ok g c =
    record_answered _ _ _ _ _ _ _ _ _ c.moment-moment.ensures c.begin_era.ensures.nothing _
    (answered_on _ _ _ _ _ c.in_ok-answered.ensures.ok c.clear_dead.ensures.on)

pub returns-in_err-answered-clause-err : goal.returns-in_err-answered-clause-err
returns-in_err-answered-clause-err g c =
    record_unanswered _ [] _ _ _ _ _ _ _ c.moment-moment.ensures c.begin_era.ensures.nothing
    c.from_residual.result c.in_err-answered.ensures.owed c.in_err-answered.ensures.err
