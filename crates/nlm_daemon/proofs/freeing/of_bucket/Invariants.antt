-- Those of the files so far.
use Rattle.std.proofs.Common.{◌≡◌, take}
use Rattle.nlm_daemon.specs.Freeing.{of_bucket}
use Rattle.nlm_daemon.proofs.freeing.of_bucket.Given as goal

abbrev pub invariant-loop-file : goal.invariant-loop-file
invariant-loop-file l = l.own.items ≡ of_bucket l.index (take l.file-index l.files)
