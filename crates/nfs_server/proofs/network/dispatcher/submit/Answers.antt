use Rattle.std.proofs.Common.{◌≤◌, Ok, refl, subst, sym}
use Rattle.std.proofs.Math.Nat.{le-max_right}
use Rattle.nfs_pool.specs.Seats.{SeatValue}
use Rattle.nfs_server.specs.AnswersTo.{GainsAtMostOne}
use Rattle.nfs_server.proofs.AnswersToLemmas.{pool_once, pool_told}
use Rattle.nfs_server.proofs.network.dispatcher.submit.Goals as goal

pub returns-in_default : goal.returns-in_default
returns-in_default g c = record {
  told =
      pool_told c.args.last c.args.arrival c.show_read.ensures c.go_above.new.self c.submit.new.seat
      (subst (λ (s : SeatValue). c.args.last ≤ s.last) (sym c.go_above.ensures)
      (le-max_right c.args.permit.now.seat.last c.args.last))
      c.in_ok-sent.sent c.in_ok-sent.ensures;
  back = tt;
  once =
      subst (λ (s : SeatValue). GainsAtMostOne s c.submit.new.seat) c.go_above.ensures
      (pool_once c.args.arrival c.go_above.new.self c.submit.new.seat (Ok c.in_ok-sent.sent) c.in_ok-sent.ensures);
  turns = refl;
}
