use Rattle.std.proofs.Common.{◌≡◌, true, false, []}
use Rattle.nfs_streams.proofs.ServingLoopLemmas.{Taking}
use Rattle.nfs_schedule.specs.Worlds.{IsAtRest}
use Rattle.nfs_streams.specs.Connections.{waiting}
use Rattle.nfs_streams.specs.declared.serving.Messages.TheVariants.{Dropped}
use Rattle.nfs_streams.proofs.serving.serve_pieces.Given as goal

abbrev pub invariant-pieces : goal.invariant-pieces
invariant-pieces g l =
    Taking g.C.Moments.gives l.serving.host.now l.initial.clock l.clock l.initial.engine l.engine
    (g.W.Sink.written l.initial.writer) (g.W.Sink.written l.writer)
    (g.R.Source.unread l.initial.reader) (g.R.Source.unread l.reader) l.connection.records l._reads
    (g.R.Counts.failures l.initial.reader) (g.R.Counts.failures l.reader) (g.W.Counts.failures l.initial.writer)
    (g.W.Counts.failures l.writer)
    × (g.W.Sink.all_sent l.initial.writer ≡ true → g.W.Sink.all_sent l.writer ≡ true)
    × (waiting l.connection ≡ [])
    × (l.connection.full ≡ false)
    × IsAtRest l.engine
    × (l.serving.messages ≡ Dropped → l.initial.engine.book.outbox ≡ [] → l.engine.book.outbox ≡ [])
