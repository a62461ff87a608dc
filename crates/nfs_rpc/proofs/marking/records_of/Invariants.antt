-- What was taken so far is whole records, and the next one has not begun.
use Rattle.std.proofs.Common.{◌≡◌, length, []}
use Rattle.nfs_rpc.specs.declared.marking.FragmentState.TheVariants.{Header}
use Rattle.nfs_rpc.proofs.FragmentByteLemmas.{AreRecords}
use Rattle.nfs_rpc.proofs.marking.records_of.Given as goal

abbrev pub invariant-records : goal.invariant-records
invariant-records l = AreRecords l.stream l.rest l.queued.items × (l.content.items ≡ []) × (l.place ≡ Header 0 0)

abbrev pub decreases-records : goal.decreases-records
decreases-records l = length l.rest
