-- The parts seen so far were added.
use Rattle.std.proofs.Common.{◌≡◌, ◌++◌, take}
use Rattle.nlm_ranges.proofs.part.push_parts.Given as goal

abbrev pub invariant-loop-other : goal.invariant-loop-other
invariant-loop-other l = l.parts.items ≡ l.initial.parts.items ++ take l.other-index l.others
