use Rattle.std.proofs.Common.{◌≡◌, drop}
use Rattle.std.specs.Cmp.Lexicographic.{pointwise}
use Rattle.nfs_objects.specs.Same.{same_seen}
use Rattle.nfs_objects.proofs.view.entries.ViewEntries.equals.Given as goal

abbrev pub invariant-loop-place : goal.invariant-loop-place
invariant-loop-place l =
    pointwise same_seen (drop l.place l.self.seen) (drop l.place l.other.seen)
    ≡ pointwise same_seen l.self.seen l.other.seen
