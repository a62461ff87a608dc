use Rattle.std.proofs.Common.{sym, subst}
use Rattle.nfs_streams.proofs.RecordAnswerLemmas.{unowned_answered}
use Rattle.nfs_streams.specs.Served.{IsRecord}
use Rattle.nfs_streams.proofs.answer.answer.Goals as goal

pub answer_arrival-requires-clause-record : goal.answer_arrival-requires-clause-record
answer_arrival-requires-clause-record c = subst IsRecord (sym c.in_ok-arrival.ensures.received) tt

pub returns-in_default-clause-ok : goal.returns-in_default-clause-ok
returns-in_default-clause-ok c = unowned_answered _ _ c.unowned.result c.unowned.ensures.ok
