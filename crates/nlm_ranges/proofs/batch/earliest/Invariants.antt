-- None of the requests seen so far is one of these.
use Rattle.std.proofs.Common.{◌≡◌, false, take}
use Rattle.std.specs.List.{list_any}
use Rattle.nlm_ranges.proofs.batch.earliest.Given as goal
use Rattle.nlm_ranges.specs.Requests.{goes}

abbrev pub invariant-loop-listed : goal.invariant-loop-listed
invariant-loop-listed l = list_any (goes l.going) (take l.listed-index l.requests) ≡ false
