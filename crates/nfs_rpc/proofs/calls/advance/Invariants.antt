-- So many words are behind the reader.
use Rattle.std.proofs.Common.{◌≡◌, ◌*◌, drop}
use Rattle.nfs_rpc.proofs.calls.advance.Given as goal

abbrev pub invariant-loop-word : goal.invariant-loop-word
invariant-loop-word l = l.reader ≡ drop (4 * l._word) l.fn.reader
