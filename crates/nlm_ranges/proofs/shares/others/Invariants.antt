-- Of the shares seen so far those of other sharers were added.
use Rattle.std.proofs.Common.{◌≡◌, take}
use Rattle.nfs_machine.specs.LockSteps.{share_of}
use Rattle.nfs_machine.specs.OneFile.{unshared}
use Rattle.nlm_ranges.proofs.shares.others.Given as goal

abbrev pub invariant-loop-held : goal.invariant-loop-held
invariant-loop-held l = l.others.items ≡ unshared (share_of l.share) (take l.held-index l.shares)
