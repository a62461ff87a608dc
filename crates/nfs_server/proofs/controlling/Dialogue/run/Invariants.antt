use Rattle.std.proofs.Common.{◌≡◌, true}
use Rattle.nfs_server.proofs.HeardInputLemmas.{Heard}
use Rattle.nfs_server.proofs.controlling.Dialogue.run.Given as goal

abbrev pub invariant-pieces : goal.invariant-pieces
invariant-pieces g l =
    goal.F-IsAlwaysCallable g l.apply
    × Heard (goal.F-step g) l.initial.self.lists.standing l.initial.apply l.self l.apply
    (g.I.Source.unread l.initial.reader)
    (g.I.Source.unread l.reader) (g.O.Sink.written l.initial.writer) (g.O.Sink.written l.writer) l._reads
    × (g.O.Sink.all_sent l.initial.writer ≡ true → g.O.Sink.all_sent l.writer ≡ true)
    × (g.O.Counts.failures l.writer ≡ g.O.Counts.failures l.initial.writer)
    × (g.I.Counts.failures l.reader ≡ g.I.Counts.failures l.initial.reader)
