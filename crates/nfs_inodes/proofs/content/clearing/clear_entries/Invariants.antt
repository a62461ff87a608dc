use Rattle.std.proofs.Common.{take}
use Rattle.nfs_inodes.specs.Entered.{Frees}
use Rattle.nfs_inodes.proofs.content.clearing.clear_entries.Given as goal

abbrev pub invariant-loop-address : goal.invariant-loop-address
invariant-loop-address l = Frees l.fn.draft l.draft l.fn.number (take l.address-index l.address-items)
