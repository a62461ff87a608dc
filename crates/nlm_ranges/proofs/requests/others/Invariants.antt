-- Of the batches seen so far the other requests were added.
use Rattle.std.proofs.Common.{◌≡◌, take}
use Rattle.nfs_machine.specs.FileLists.{all_but}
use Rattle.nlm_ranges.proofs.requests.others.Given as goal
use Rattle.nlm_ranges.specs.Cutting.{joined}
use Rattle.nlm_ranges.specs.Requests.{goes}

abbrev pub invariant-loop-batch : goal.invariant-loop-batch
invariant-loop-batch l = joined l.others.items ≡ all_but (goes l.going) (joined (take l.batch-index l.batches))
