-- So many words stand behind what there was.
use Rattle.std.proofs.Common.{◌≡◌, ◌++◌, take}
use Rattle.nfs_rpc.specs.Messages.{words}
use Rattle.nfs_rpc.proofs.replies.write_words.Given as goal

abbrev pub invariant-loop-number : goal.invariant-loop-number
invariant-loop-number l = l.writer ≡ l.fn.writer ++ words (take l.number-index l.numbers)
