use Rattle.std.proofs.Common.{subst, sym}
use Rattle.nfs_engine.specs.Arrivals.{ArrivalValue}
use Rattle.nfs_engine.specs.Book.{Admits}
use Rattle.nfs_engine.proofs.book.Book.turn_away.Goals as goal

pub returns : goal.returns
returns c =
    subst (λ (a : ArrivalValue). Admits c.args.self.now c.turn_call_away.new.self a c.turn_call_away.result)
    (sym c.in-Ok.ensures.0) c.turn_call_away.ensures
