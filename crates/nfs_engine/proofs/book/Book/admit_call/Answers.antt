use Rattle.std.proofs.Common.{ap, sym, ◌∙◌}
use Rattle.nfs_engine.proofs.AdmitErrorLemmas.{recalled_kept, recalled_running, recalled_wanting}
use Rattle.nfs_engine.specs.Arrivals.{ArrivalValue}
use Rattle.nfs_engine.proofs.book.Book.admit_call.Goals as goal

pub returns-in-Ok-Kept : goal.returns-in-Ok-Kept
returns-in-Ok-Kept c = rw (← c.candidate.view_is) (recalled_kept c.candidate.inside.request.value
    c.candidate.inside.origin c.candidate.invariant c.args.self.now c.recall.new.self c.in-Some.origin
    (record { host = c.in-Some.origin.host; bytes = c.sought.result.bytes.now }) c.in-Some.is
    (λ i. record { host = c.in-Some.origin.host; bytes = c.sought.ensures i }) c.in-Ok-Kept.reply c.new.result
    (rw c.in-Ok-Kept.field-0-is at c.in-Ok-Kept.ensures) (c.new.ensures ∙ (λ i. record {
      received = (c.into_received-received.ensures ∙ ap (λ (a : ArrivalValue). a.received) (sym c.candidate.view_is)) i;
      reply = c.in-Ok-Kept.reply;
    })))

pub returns-in-Ok-Running : goal.returns-in-Ok-Running
returns-in-Ok-Running c = rw (← c.candidate.view_is) (recalled_running c.candidate.inside.request.value
    c.candidate.inside.origin c.candidate.invariant c.args.self.now c.recall.new.self c.in-Some.origin
    (record { host = c.in-Some.origin.host; bytes = c.sought.result.bytes.now }) c.in-Some.is
    (λ i. record { host = c.in-Some.origin.host; bytes = c.sought.ensures i }) c.into_arrival.result
    (rw c.in-Ok-Running.field-0-is at c.in-Ok-Running.ensures) (c.into_arrival.ensures ∙ sym c.candidate.view_is))

pub returns-in-Err : goal.returns-in-Err
returns-in-Err c = rw (← c.candidate.view_is) (recalled_wanting c.candidate.inside.request.value
    c.candidate.inside.origin c.candidate.invariant c.args.self.now c.recall.new.self c.in-Some.origin
    (record { host = c.in-Some.origin.host; bytes = c.sought.result.bytes.now }) c.in-Some.is
    (λ i. record { host = c.in-Some.origin.host; bytes = c.sought.ensures i })
    c.into_arrival-in-Err.result c.in-Err.ensures (c.into_arrival-in-Err.ensures ∙ sym c.candidate.view_is))
