use Rattle.std.proofs.lemmas.Result.{err_from_is_err_and}
use Rattle.nfs_streams.proofs.ServingLoopLemmas.{answering_more, answering_none, answering_stops, sent_goes, sent_stops}
use Rattle.nfs_streams.proofs.serving.serve_records.Goals as goal

pub records-init : goal.records-init
records-init g c =
    (answering_none _ _ _ _ _ _ _ _ c.requires.none, λ sent. sent, c.requires.room, c.requires.rest, λ is none. none)

pub records-preserved : goal.records-preserved
records-preserved g c = (
  rw c.in_ok-serve_record.ensures.records
      (answering_more _ _ _ _ _ _ _ _ _ _ _ _ _ _ _ _ _ _ _ c.in-Some.record c.records.invariant.0
      c.in-Some.ensures.some c.in-Some.ensures.gives
      (rw c.in-Some.ensures.waits at c.in_ok-serve_record.ensures.adds)
      c.in_ok-serve_record.ensures.ok),
  λ sent. c.in_ok-serve_record.ensures.sent (c.records.invariant.1 sent),
  c.in_ok-serve_record.ensures.room,
  c.in_ok-serve_record.ensures.rest,
  λ is none. c.in_ok-serve_record.ensures.dropped is (c.records.invariant.4 is none),
)

pub returns-in_err-serve_record-clause-stops : goal.returns-in_err-serve_record-clause-stops
returns-in_err-serve_record-clause-stops g c =
    let p = err_from_is_err_and c.from_residual.result c.from_residual.ensures.1 in
    rw (p.1, p.2)
    (answering_stops _ _ _ _ _ _ _ _ _ _ _ _ _ _ _ _ _ 0 c.in-Some.record c.records.invariant.0
    c.in-Some.ensures.some _ (rw c.in-Some.ensures.waits at c.in_err-serve_record.ensures.fails))

pub returns-clause-stops : goal.returns-clause-stops
returns-clause-stops g c =
    sent_stops _ _ _ _ _ _ _ _ _ _ _ _ _ _ c.records.invariant.0 c.in_default.ensures.none.0 _ c.send.result
    (rw c.in_default.ensures.none.1 at c.send.ensures.part) c.send.ensures.fault

pub returns-clause-goes : goal.returns-clause-goes
returns-clause-goes g c =
    sent_goes _ _ _ _ _ _ _ _ _ _ _ _ _ _ c.records.invariant.0 c.in_default.ensures.none.0 c.send.result
    (rw c.in_default.ensures.none.1 at c.send.ensures.written)
