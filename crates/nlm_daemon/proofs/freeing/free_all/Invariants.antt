-- The files of so many buckets were put.
use Rattle.nlm_daemon.proofs.FreeAllDraftLemmas.{ArePut}
use Rattle.nlm_daemon.proofs.freeing.free_all.Given as goal

abbrev pub invariant-loop-index : goal.invariant-loop-index
invariant-loop-index l = ArePut l.fn.draft l.freed.items l.files.items l.index l.draft
