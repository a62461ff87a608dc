use Rattle.std.proofs.Common.{◌≡◌, ◌++◌, ℕ, List, Option, take, true}
use Rattle.nfs_machine.specs.Exports.{ExportValue}
use Rattle.nfs_server.specs.Control.{Stands}
use Rattle.nfs_server.proofs.controlling.Dialogue.take_in.Given as goal

abbrev pub invariant-bytes : goal.invariant-bytes
invariant-bytes g l =
    goal.F-IsAlwaysCallable g l.apply
    × ((exports : List ExportValue) (caller : _) (seen : List ℕ) (before : Option (List ℕ)) →
    Stands (goal.F-step g) exports caller seen l.initial.self l.initial.apply before
    (g.O.Sink.written l.initial.writer) →
    Stands (goal.F-step g) exports caller (seen ++ take l.byte-index l.piece) l.self l.apply before
    (g.O.Sink.written l.writer))
    × (g.O.Sink.all_sent l.initial.writer ≡ true → g.O.Sink.all_sent l.writer ≡ true)
    × (g.O.Counts.failures l.writer ≡ g.O.Counts.failures l.initial.writer)
