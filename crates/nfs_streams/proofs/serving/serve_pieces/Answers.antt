use Rattle.std.proofs.Common.{◌≡◌, length, refl, rules}
use Rattle.std.proofs.lemmas.Result.{err_from_is_err_and}
use Rattle.nfs_streams.proofs.EraLimitLemmas.{keeps_join}
use Rattle.nfs_streams.proofs.AnswersJoinLemmas.{goes_stops, stops_keeps}
use Rattle.nfs_streams.proofs.StreamPieceLemmas.{all_taken, taking_none, fault_taking, fault_taken, taking_more}
use Rattle.nfs_streams.proofs.StreamPieceLemmas.{refused_large}
use Rattle.nfs_streams.proofs.StreamPieceLemmas.{ends_early, early_fault, later_fault, later_not_read, later_write}
use Rattle.nfs_streams.proofs.StreamPieceLemmas.{err_same}
use Rattle.nfs_streams.proofs.StreamPieceLemmas.{refused_other, refused_write}
use Rattle.nfs_streams.specs.declared.serving.TheConstants.{BUFFER_SIZE}
use Rattle.nfs_streams.proofs.serving.serve_pieces.Goals as goal

pub pieces-init : goal.pieces-init
pieces-init g c = (
  taking_none _ _ _ _ _ _ _ _ _ c.requires.new.records,
  λ sent. sent,
  c.requires.new.none,
  c.requires.new.free,
  c.requires.rest,
  λ is none. none,
)

pub returns-in-End-clause-ok : goal.returns-in-End-clause-ok
returns-in-End-clause-ok g c = λ input is. all_taken _ _ _ _ _ _ _ _ _ _ _ _ _ _ _ _ c.pieces.invariant.0 _ _
    (rw c.in-End.is at c.in_ok-taken.ensures.taken) input is

pub returns-in_err-taken-clause-fault : goal.returns-in_err-taken-clause-fault
returns-in_err-taken-clause-fault g c =
    let p = err_from_is_err_and c.from_residual.result c.from_residual.ensures.1 in
    let size : length c.pieces.buffer ≡ BUFFER_SIZE = search rules in
    rw (p.1, p.2)
    (fault_taking _ _ _ _ _ _ _ _ _ _ _ _ _ _ _ _ c.pieces.invariant.0 _ _
    (ends_early _ _ _ _ c.in_err-taken.ensures.fault)
    (early_fault _ _ c.pieces.invariant.0.within c.in_err-taken.ensures.fault)
    (rw size at c.in_err-taken.ensures.left))

pub returns-in_err-serve_records : goal.returns-in_err-serve_records
returns-in_err-serve_records g c =
    let p = err_from_is_err_and c.from_residual-in_err-serve_records.result
    c.from_residual-in_err-serve_records.ensures.1 in
    let fault = c.in_err-serve_records.ensures.fault in
    rw (p.1, p.2)
    (record {
      rest = c.in_err-serve_records.ensures.rest;
      keeps =
          keeps_join _ _ _ c.pieces.invariant.0.goes.answered.keeps
          (stops_keeps _ _ _ _ _ _ _ _ _ _ c.in_err-serve_records.ensures.stops);
      ok = tt;
      fault =
          fault_taken _ _ _ _ _ _ _ _ _ _ _ _ _ _ _ _ c.pieces.invariant.0 _ _ c.in_ok-taken.taken c.in_default.not-End
          c.in_ok-taken.ensures.taken _ _ _ _
          c.in_err-serve_records.ensures.stops (later_fault _ _ fault);
      dropped = λ is none. c.in_err-serve_records.ensures.dropped is (c.pieces.invariant.5 is none);
      read = λ e. absurd (later_not_read _ fault (err_same _ _ e));
      write = λ e. later_write _ _ _ _ fault c.pieces.invariant.0.same_writer (err_same _ _ e);
      end = tt;
      sent = tt;
    })

pub returns-in-Refused : goal.returns-in-Refused
returns-in-Refused g c = record {
  rest = c.in_ok-serve_records.ensures.rest;
  keeps =
      keeps_join _ _ _ c.pieces.invariant.0.goes.answered.keeps
      c.in_ok-serve_records.ensures.goes.answered.keeps;
  ok = tt;
  fault =
      fault_taken _ _ _ _ _ _ _ _ _ _ _ _ _ _ _ _ c.pieces.invariant.0 _ _ c.in_ok-taken.taken c.in_default.not-End
      c.in_ok-taken.ensures.taken _ _ _ _
      (goes_stops _ _ _ _ _ _ _ _ _ _ (refl, (refl, refl, refl)) c.in_ok-serve_records.ensures.goes)
      (refused_large _ _ _ _ _ _ _ c.in-Refused.is c.in_ok-taken.ensures.taken.takes c.pieces.invariant.0.holds);
  dropped = λ is none. c.in_ok-serve_records.ensures.dropped is (c.pieces.invariant.5 is none);
  read = λ e. absurd (refused_other e);
  write = λ e. absurd (refused_write e);
  end = tt;
  sent = tt;
}

pub pieces-preserved : goal.pieces-preserved
pieces-preserved g c = (
  taking_more _ _ _ _ _ _ _ _ _ _ _ _ _ _ _ _ c.pieces.invariant.0 _ _ c.in_ok-taken.taken c.in_default.not-End
      c.in_ok-taken.ensures.taken c.in_default-taken.not-Refused _ _ _ _ _ _
      c.in_ok-serve_records.ensures.goes c.in_ok-serve_records.ensures.all c.in_ok-serve_records.ensures.holds
      c.in_ok-taken.ensures.ok c.in_ok-serve_records.ensures.ok,
  λ sent. c.in_ok-serve_records.ensures.sent (c.pieces.invariant.1 sent),
  c.in_ok-serve_records.ensures.none,
  c.in_ok-serve_records.ensures.room,
  c.in_ok-serve_records.ensures.rest,
  λ is none. c.in_ok-serve_records.ensures.dropped is (c.pieces.invariant.5 is none),
)

pub returns-in-End-clause-keeps : goal.returns-in-End-clause-keeps
returns-in-End-clause-keeps g c = c.pieces.invariant.0.goes.answered.keeps

pub returns-in-End-clause-end : goal.returns-in-End-clause-end
returns-in-End-clause-end g c = (rw c.in-End.is at c.in_ok-taken.ensures.taken).takes.2

pub returns-in_err-taken-clause-keeps : goal.returns-in_err-taken-clause-keeps
returns-in_err-taken-clause-keeps g c = c.pieces.invariant.0.goes.answered.keeps
