-- Of the requests seen so far the others were added.
use Rattle.std.proofs.Common.{◌≡◌, take}
use Rattle.nfs_machine.specs.FileLists.{all_but}
use Rattle.nlm_ranges.proofs.batch.others.Given as goal
use Rattle.nlm_ranges.specs.Requests.{goes}

abbrev pub invariant-loop-listed : goal.invariant-loop-listed
invariant-loop-listed l = l.others.items ≡ all_but (goes l.going) (take l.listed-index l.requests)
