-- The requests seen so far are listed.
use Rattle.std.proofs.Common.{◌≡◌, map, take}
use Rattle.std.specs.Arc.{arc_value}
use Rattle.nlm_ranges.proofs.batch.list_all.Given as goal

abbrev pub invariant-loop-request : goal.invariant-loop-request
invariant-loop-request l = l.all.items ≡ map arc_value (take l.request-index l.requests)
