use Rattle.std.proofs.Common.{◌≡◌, true, false, [], length}
use Rattle.nfs_streams.proofs.ServingLoopLemmas.{Answering}
use Rattle.nfs_schedule.specs.Worlds.{IsAtRest}
use Rattle.nfs_streams.specs.Connections.{waiting}
use Rattle.nfs_streams.specs.declared.serving.Messages.TheVariants.{Dropped}
use Rattle.nfs_streams.proofs.serving.serve_records.Given as goal

abbrev pub invariant-records : goal.invariant-records
invariant-records g l =
    Answering g.C.Moments.gives l.serving.host.now l.initial.clock l.clock l.initial.engine l.engine
    (g.W.Sink.written l.initial.writer) (g.W.Sink.written l.writer)
    l.initial.connection.records l.connection.records (waiting l.connection) (g.W.Counts.failures l.initial.writer)
    (g.W.Counts.failures l.writer)
    × (g.W.Sink.all_sent l.initial.writer ≡ true → g.W.Sink.all_sent l.writer ≡ true)
    × (l.connection.full ≡ false)
    × IsAtRest l.engine
    × (l.serving.messages ≡ Dropped → l.initial.engine.book.outbox ≡ [] → l.engine.book.outbox ≡ [])

abbrev pub decreases-records : goal.decreases-records
decreases-records g l = length l.connection.records.queued
