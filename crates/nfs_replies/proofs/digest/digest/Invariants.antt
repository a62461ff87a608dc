use Rattle.std.proofs.Common.{◌≡◌, ◌/◌, length}
use Rattle.nfs_replies.specs.Keys.{behind, key_lanes}
use Rattle.nfs_replies.proofs.digest.digest.Given as goal

abbrev pub invariant-blocks-2 : goal.invariant-blocks-2
invariant-blocks-2 l =
    behind (length l.rest / 64) l.words l.lanes l.rest ≡
    behind (length l.bytes / 64) l.words (key_lanes l.fn.key) l.bytes

abbrev pub decreases-blocks-2 : goal.decreases-blocks-2
decreases-blocks-2 l = length l.rest
