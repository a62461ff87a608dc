-- What waits for the files so far was tried.
use Rattle.std.proofs.Common.{take}
use Rattle.nlm_daemon.specs.Freeing.{SettlesAll}
use Rattle.nlm_daemon.proofs.freeing.settle_all.Given as goal

abbrev pub invariant-loop-file : goal.invariant-loop-file
invariant-loop-file l = SettlesAll l.fn.draft l.draft (take l.file-index l.freed) l.files.items
