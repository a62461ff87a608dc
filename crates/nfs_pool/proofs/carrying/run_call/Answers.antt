use Rattle.std.proofs.Common.{Ok, ◌∙◌, ap, subst, ◌++◌, ◌∷◌, [], List}
use Rattle.nfs_engine.specs.declared.journal.Receipt.{Receipt}
use Rattle.nfs_engine.specs.declared.admission.Admission.{Admission}
use Rattle.nfs_pool.specs.Steps.{AdmitsFrom}
use Rattle.nfs_pool.proofs.SeatLemmas.{seat_after, seat_gains}
use Rattle.nfs_pool.proofs.carrying.run_call.Goals as goal

pub invariant_of-seat-in-Executed : goal.invariant_of-seat-in-Executed
invariant_of-seat-in-Executed g c =
    seat_after c.seat.inside.shard c.seat.inside.last c.seat.inside.receipts.items c.push.new.self.items _ _ _ _
    c.in-Ok-Begin.txn.received c.in-Executed.receipt c.seat.invariant
    (c.in-Ok-push.ensures.items ∙ ap (λ (rs : List Receipt). rs ++ c.in-Executed.receipt ∷ []) c.in-Ok.ensures.items)
    c.in-Executed.ensures.ended c.in-Executed.ensures.parts

pub returns-in-Ok-push : goal.returns-in-Ok-push
returns-in-Ok-push g c =
    rw (← c.seat.view_is)
    (seat_gains c.args.arrival c.in-Ok-Begin.txn.received
    (subst (λ (x : Admission). AdmitsFrom c.args.arrival (Ok x)) c.in-Ok-Begin.field-0-is c.in-Ok-Begin.ensures).0
    c.seat.inside.shard c.seat.inside.last c.seat.inside.receipts.items c.push.new.self.items _ _ _
    c.in-Executed.receipt c.seat.invariant
    (c.in-Ok-push.ensures.items ∙ ap (λ (rs : List Receipt). rs ++ c.in-Executed.receipt ∷ []) c.in-Ok.ensures.items)
    c.in-Executed.ensures.ended)
