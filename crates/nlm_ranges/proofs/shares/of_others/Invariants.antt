-- Of the shares seen so far those of other callers were added.
use Rattle.std.proofs.Common.{◌≡◌, take}
use Rattle.nfs_machine.specs.OneFile.{shares_without}
use Rattle.nlm_ranges.proofs.shares.of_others.Given as goal

abbrev pub invariant-loop-held : goal.invariant-loop-held
invariant-loop-held l = l.others.items ≡ shares_without l.caller_name (take l.held-index l.shares)
