use Rattle.std.proofs.Common.{length}
use Rattle.nfs_streams.proofs.ServingLoopLemmas.{Writing}
use Rattle.nfs_streams.proofs.sending.write_all.Given as goal

abbrev pub invariant-writes : goal.invariant-writes
invariant-writes g l =
    Writing (g.W.Sink.written l.initial.writer) (g.W.Sink.written l.writer) l.bytes l.rest
    (g.W.Counts.failures l.initial.writer) (g.W.Counts.failures l.writer)

abbrev pub decreases-writes : goal.decreases-writes
decreases-writes g l = length l.rest
