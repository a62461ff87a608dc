-- The files that are left.
use Rattle.std.proofs.Common.{◌≡◌, ◌++◌, length}
use Rattle.nlm_ranges.proofs.files.LockedFilesIterator.next.Given as goal
use Rattle.nlm_ranges.specs.Parts.{files_of}

abbrev pub invariant-parts : goal.invariant-parts
invariant-parts l = l.fn.self ≡ l.self-inside.front.now ++ files_of l.self-inside.parts.now

abbrev pub decreases-parts : goal.decreases-parts
decreases-parts l = length l.self-inside.parts.now
