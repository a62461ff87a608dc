use Rattle.std.proofs.Common.{refl}
use Rattle.nfs_schedule.proofs.StopLemmas.{stop_ended, stop_gone, stop_left, stop_ready}
use Rattle.nfs_schedule.specs.declared.model.worker.Worker.TheVariants.{Trying, Wanting, WantingNumbers, Blocked}
use Rattle.nfs_schedule.specs.declared.model.worker.Worker.TheVariants.{Failing}
use Rattle.nfs_schedule.specs.declared.model.worker.Worker.TheVariants.{PutOff}
use Rattle.nfs_schedule.specs.declared.model.worker.Worker.TheVariants.{Refusing}
use Rattle.nfs_schedule.proofs.model.stop.stop.Goals as goal

pub returns-in-Trying : goal.returns-in-Trying
returns-in-Trying c =
    let lives = rw c.in-Trying.is at c.requires in
    rw c.in-Trying.is (stop_gone _ _ (Trying c.in-Trying.txn) _ _ _ _ c.stop_call.ensures.gone _ lives.0.running refl
    refl refl
    c.stop_call.ensures.answer)

pub returns-in-Wanting : goal.returns-in-Wanting
returns-in-Wanting c =
    let lives = rw c.in-Wanting.is at c.requires in
    rw c.in-Wanting.is (stop_gone _ _ (Wanting c.in-Wanting.txn c.in-Wanting.wanted) _ _ _ _
    c.stop_call-in-Wanting.ensures.gone _ lives.0.running refl refl refl
    c.stop_call-in-Wanting.ensures.answer)

pub returns-in-WantingNumbers : goal.returns-in-WantingNumbers
returns-in-WantingNumbers c =
    let lives = rw c.in-WantingNumbers.is at c.requires in
    rw c.in-WantingNumbers.is (stop_gone _ _ (WantingNumbers c.in-WantingNumbers.txn c.in-WantingNumbers._left) _ _ _ _
    c.stop_call-in-WantingNumbers.ensures.gone _ lives.0.running refl refl refl
    c.stop_call-in-WantingNumbers.ensures.answer)

pub returns-in-Ready : goal.returns-in-Ready
returns-in-Ready c =
    let lives = rw c.in-Ready.is at c.requires in
    rw c.in-Ready.is (stop_ready _ _ _ _ _ c.into_txn.ensures lives c.stop_call-in-Ready.ensures.gone
    c.stop_call-in-Ready.ensures.answer)

pub returns-in-Blocked : goal.returns-in-Blocked
returns-in-Blocked c =
    let lives = rw c.in-Blocked.is at c.requires in
    rw c.in-Blocked.is (stop_gone _ _ (Blocked c.in-Blocked.txn) _ _ _ _ c.stop_call-in-Blocked.ensures.gone _
    lives.running refl refl refl
    c.stop_call-in-Blocked.ensures.answer)

pub returns-in-Failing : goal.returns-in-Failing
returns-in-Failing c =
    let lives = rw c.in-Failing.is at c.requires in
    rw c.in-Failing.is (stop_gone _ _ (Failing c.in-Failing.txn) _ _ _ _ c.stop_call-in-Failing.ensures.gone _
    lives.running refl refl refl
    c.stop_call-in-Failing.ensures.answer)

pub returns-in_err-pending-in-Leaving : goal.returns-in_err-pending-in-Leaving
returns-in_err-pending-in-Leaving c =
    rw (c.from_residual.ensures, c.in-Leaving.is) (stop_ended _ _ _ c.in-Leaving.field-1
    c.in_err-pending-in-Leaving.ensures)

pub returns-in_ok-pending-in-Leaving : goal.returns-in_ok-pending-in-Leaving
returns-in_ok-pending-in-Leaving c =
    let leaving = rw c.in-Leaving.is at c.requires in
    rw c.in-Leaving.is (stop_left _ _ _ _ c.in-Leaving.field-1 _ _ leaving c.in_ok-pending-in-Leaving.ensures
    c.leave_unanswered.ensures.gone c.leave_unanswered.ensures.answer)

pub returns-in-PutOff : goal.returns-in-PutOff
returns-in-PutOff c =
    let lives = rw c.in-PutOff.is at c.requires in
    rw c.in-PutOff.is (stop_gone _ _ (PutOff c.in-PutOff.pending) _ _ _ _ c.leave_unanswered-in-PutOff.ensures.gone _
    lives.running refl refl refl
    c.leave_unanswered-in-PutOff.ensures.answer)

pub returns-in-Refusing : goal.returns-in-Refusing
returns-in-Refusing c =
    let lives = rw c.in-Refusing.is at c.requires in
    rw c.in-Refusing.is (stop_gone _ _ (Refusing c.in-Refusing.pending) _ _ _ _
    c.leave_unanswered-in-Refusing.ensures.gone _ lives.running refl refl refl
    c.leave_unanswered-in-Refusing.ensures.answer)
