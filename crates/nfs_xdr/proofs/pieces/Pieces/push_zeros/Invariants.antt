-- With the zeros that are left it is what it is to be.
use Rattle.std.proofs.Common.{◌≡◌, ◌++◌}
use Rattle.std.specs.Prelude.{replicate}
use Rattle.nfs_xdr.proofs.pieces.Pieces.push_zeros.Given as goal

abbrev pub invariant-loop-left : goal.invariant-loop-left
invariant-loop-left l = l.self ++ replicate l.left 0 ≡ l.initial.self ++ replicate l.count 0

abbrev pub decreases-loop-left : goal.decreases-loop-left
decreases-loop-left l = l.left
