-- The files of the buckets so far are freed.
use Rattle.nlm_daemon.proofs.FreedFilesLemmas.{AreGathered}
use Rattle.nlm_daemon.proofs.freeing.all_freed.Given as goal

abbrev pub invariant-loop-index : goal.invariant-loop-index
invariant-loop-index l = AreGathered l.fn.draft l.fn.caller_name l.index l.freed.items
