-- The requests seen so far were added.
use Rattle.std.proofs.Common.{◌≡◌, ◌++◌, take}
use Rattle.nlm_ranges.proofs.batch.push_listed.Given as goal

abbrev pub invariant-loop-other : goal.invariant-loop-other
invariant-loop-other l = l.requests.items ≡ l.initial.requests.items ++ take l.other-index l.others
