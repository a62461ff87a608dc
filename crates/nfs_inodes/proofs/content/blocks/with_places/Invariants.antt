use Rattle.std.proofs.Common.{◌≡◌, ◌||◌, ◌&&◌, ℕ, nat_le, nat_lt}
use Rattle.nfs_objects.specs.Bits.{has}
use Rattle.nfs_inodes.proofs.content.blocks.with_places.Given as goal

abbrev pub invariant-loop-place : goal.invariant-loop-place
invariant-loop-place l = (n : ℕ) → has l.all n ≡ (has l.fn.bits n || (nat_le l.fn.first n && nat_lt n l.place))
