use Rattle.std.proofs.Common.{subst, sym}
use Rattle.nlm_ranges.proofs.WideningLemmas.{begins-itself, begins-more}
use Rattle.nlm_ranges.proofs.locks.first_with.Goals as goal
use Rattle.nlm_ranges.specs.Held.{BeginsWith}

pub returns-in-Some : goal.returns-in-Some
returns-in-Some c =
    subst (BeginsWith c.args.list.now c.args.range.now) (sym c.first.ensures)
    (begins-more c.args.list.now c.args.range.now c.in-Some.lock.now c.in-Some.ensures)

pub returns-in-None : goal.returns-in-None
returns-in-None c =
    subst (BeginsWith c.args.list.now c.args.range.now) (sym c.first-in-None.ensures)
    (begins-itself c.args.list.now c.args.range.now)
