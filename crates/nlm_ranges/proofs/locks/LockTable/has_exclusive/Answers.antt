use Rattle.std.proofs.Common.{subst, sym, ◌∙◌}
use Rattle.nlm_ranges.proofs.LockTableLemmas.{none-alone}
use Rattle.nlm_ranges.proofs.locks.LockTable.has_exclusive.Goals as goal
use Rattle.nlm_ranges.specs.Held.{HasNoneAlone}

pub returns : goal.returns
returns c = λ none.
    subst (λ ls. HasNoneAlone ls c.args.range.now) c.self.view_is
    (none-alone c.self.inside.exclusive c.self.inside.shared c.args.range.now c.self.invariant
    (sym c.is_touched.ensures ∙ none))
