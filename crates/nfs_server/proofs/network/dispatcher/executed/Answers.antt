-- The last receipt of the seat is of what came in, and what is shared of it too.
use Rattle.std.proofs.Common.{Bor, Option, option_copied, ap, refl}
use Rattle.nfs_engine.specs.Arrivals.{record_value}
use Rattle.nfs_engine.specs.declared.arrival.Executed.{Executed}
use Rattle.nfs_engine.specs.declared.journal.Receipt.{Receipt}
use Rattle.nfs_server.proofs.AnswersToLemmas.{receipt_answers}
use Rattle.nfs_server.proofs.network.dispatcher.executed.Goals as goal

pub returns : goal.returns
returns g c = λ n r has.
    receipt_answers n r c.args.seat.now has c.receipts.result.now c.receipts.ensures (option_copied c.last.result)
    c.last.ensures.value c.in_ok-receipt.receipt.now
    (ap (λ (found : Option (Bor Receipt)). option_copied found) c.in_ok-receipt.ensures.ok_part)
    (record {
      number = c.in_ok-receipt.receipt.now.number;
      executed = c.in_ok-try_clone.field-0;
      answer = c.in_ok-clone.field-0;
    })
    refl (ap (λ (x : Executed). record_value x) c.in_ok-try_clone.ensures) c.in_ok-clone.ensures.cases
