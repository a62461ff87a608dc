-- What was taken so far leads on from the place where the piece began.
use Rattle.std.proofs.Common.{length, Some}
use Rattle.nfs_rpc.specs.Held.{IsPlace, LeadsOn}
use Rattle.nfs_rpc.proofs.marking.advance.Given as goal

abbrev pub invariant-steps : goal.invariant-steps
invariant-steps l = LeadsOn l.piece l.left l.fn.content.items l.content.items l.fn.place (Some l.place)
    × IsPlace l.place (length l.content.items)

abbrev pub decreases-steps : goal.decreases-steps
decreases-steps l = length l.left
