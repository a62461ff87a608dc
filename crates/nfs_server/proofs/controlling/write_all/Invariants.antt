use Rattle.std.proofs.Common.{length}
use Rattle.nfs_streams.proofs.ServingLoopLemmas.{Writing}
use Rattle.nfs_server.proofs.controlling.write_all.Given as goal

abbrev pub invariant-writes : goal.invariant-writes
invariant-writes g l =
    Writing (g.O.Sink.written l.initial.writer) (g.O.Sink.written l.writer) l.bytes l.rest
    (g.O.Counts.failures l.initial.writer) (g.O.Counts.failures l.writer)

abbrev pub decreases-writes : goal.decreases-writes
decreases-writes g l = length l.rest
