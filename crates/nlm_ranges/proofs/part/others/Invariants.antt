-- Of the files seen so far the others were added.
use Rattle.std.proofs.Common.{◌≡◌, ◌==◌, filter, not, take}
use Rattle.nlm_ranges.proofs.part.others.Given as goal
use Rattle.nlm_ranges.specs.Buckets.{LockedValue}

abbrev pub invariant-loop-file : goal.invariant-loop-file
invariant-loop-file l =
    l.others.items ≡ filter (λ (f : LockedValue). not (f.number == l.number)) (take l.file-index l.files)
