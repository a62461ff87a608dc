-- Bytes of a fragment are taken at once.
use Rattle.std.proofs.Common.{arith}
use Rattle.nfs_server.proofs.FragmentPieceLemmas.{steps_body}
use Rattle.nfs_server.proofs.marks.Stage.step.Goals as goal

pub returns-in-Body : goal.returns-in-Body
returns-in-Body c =
    rw (c.in-Body.is, c.in_body.ensures, c.saturating_sub-left.ensures)
    (steps_body c.in-Body.last c.in-Body.missing c.min-size.result c.args.piece.now c.requires
    (omega (arith, c.min-size.ensures, c.max.ensures)))
