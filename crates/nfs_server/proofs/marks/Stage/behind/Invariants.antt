use Rattle.std.proofs.Common.{◌≡◌, ◌||◌, length}
use Rattle.nfs_server.specs.Stages.{behind, has_ended}
use Rattle.nfs_server.proofs.marks.Stage.behind.Given as goal

-- what is left leads where the piece does
abbrev pub invariant-steps : goal.invariant-steps
invariant-steps l = record {
  leads : behind l.stage l.left ≡ behind l.fn.self l.piece;
  ended : (l.has_ended || has_ended l.stage l.left) ≡ has_ended l.fn.self l.piece;
}

abbrev pub decreases-steps : goal.decreases-steps
decreases-steps l = length l.left
