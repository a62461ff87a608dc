use Rattle.std.proofs.Common.{ℕ, ◌<◌, ◌≤◌}
use Rattle.nfs_inodes.specs.Blocks.{HasBlock}
use Rattle.nfs_inodes.proofs.content.blocks.are_there.Given as goal

abbrev pub invariant-loop-index : goal.invariant-loop-index
invariant-loop-index l = (i : ℕ) → l.fn.first ≤ i → i < l.index → HasBlock l.fn.draft l.fn.number i
