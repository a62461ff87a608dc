-- The buckets so far are asked for.
use Rattle.std.proofs.Common.{[]}
use Rattle.nfs_inodes.specs.Asking.{AsksFor}
use Rattle.nlm_daemon.proofs.BucketWishLemmas.{IsBelow}
use Rattle.nlm_daemon.proofs.freeing.ask_buckets.Given as goal

abbrev pub invariant-loop-index : goal.invariant-loop-index
invariant-loop-index l = AsksFor l.fn.draft (IsBelow l.index) (IsBelow l.index) [] l.asking.asked.items
