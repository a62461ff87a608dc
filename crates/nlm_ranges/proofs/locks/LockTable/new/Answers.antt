use Rattle.std.proofs.Common.{[], subst, sym}
use Rattle.nlm_ranges.proofs.LockTableLemmas.{none-held}
use Rattle.nlm_ranges.proofs.locks.LockTable.new.Goals as goal
use Rattle.nlm_ranges.specs.Held.{AreHeld}

pub invariant_of-result : goal.invariant_of-result
invariant_of-result c =
    subst (λ ls. AreHeld ls c.new-2.result) (sym c.new.ensures) (subst (AreHeld []) (sym c.new-2.ensures) none-held)
