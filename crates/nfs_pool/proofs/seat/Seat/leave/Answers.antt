use Rattle.std.proofs.Common.{◌+◌, arith, length, subst}
use Rattle.nfs_pool.specs.Seats.{Counts, SeatValue}
use Rattle.nfs_pool.proofs.CountsLemmas.{counts-merged}
use Rattle.nfs_pool.proofs.seat.Seat.leave.Goals as goal

pub returns-clause-counted : goal.returns-clause-counted
returns-clause-counted g c = λ receipts counts.
    subst (λ (s : SeatValue). Counts (receipts + length s.receipts) c.merge.new.self.amount) c.self.view_is
    (counts-merged receipts _ c.args.all.now.amount _ c.merge.new.self.amount counts c.self.invariant.counted
    (omega (arith, c.merge.ensures.amount)))
