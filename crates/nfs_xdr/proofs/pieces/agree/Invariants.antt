-- What is left of both agrees just where both do.
use Rattle.std.proofs.Common.{◌≡◌, ◌+◌, []}
use Rattle.nfs_xdr.proofs.BytesInPiecesLemmas.{agreed, left-of}
use Rattle.nfs_xdr.proofs.pieces.agree.Given as goal

abbrev pub invariant-fronts : goal.invariant-fronts
invariant-fronts l =
    agreed l.our l.our_rest l.their l.their_rest ≡ agreed [] l.ours [] l.theirs

abbrev pub decreases-fronts : goal.decreases-fronts
decreases-fronts l = left-of l.our l.our_rest + left-of l.their l.their_rest
