-- The input has ended behind a newline, or else what stands behind the last one is answered.
use Rattle.nfs_server.proofs.AnsweredLinesLemmas.{hears_all, hears_rest, hears_rest_stopped}
use Rattle.nfs_server.proofs.controlling.Dialogue.finish.Given as given
use Rattle.nfs_server.proofs.controlling.Dialogue.finish.Goals as goal

pub returns-then-is_at_start-clause-hears : goal.returns-then-is_at_start-clause-hears
returns-then-is_at_start-clause-hears g c = λ exports caller seen before stands.
    hears_all (given.F-step g) exports caller before seen c.args.self.now c.args.apply.now
    (g.O.Sink.written c.args.writer.now) stands (c.is_at_start.ensures.yes c.if-is_at_start.true)

pub returns-in-Ok-clause-hears : goal.returns-in-Ok-clause-hears
returns-in-Ok-clause-hears g c = λ exports caller seen before stands.
    hears_rest (given.F-step g) exports caller before seen c.args.self.now c.answer.new.self c.args.apply.now
    c.answer.new.apply (g.O.Sink.written c.args.writer.now) (g.O.Sink.written c.answer.new.writer) stands
    (c.is_at_start.ensures.no c.if-is_at_start.false) c.in-Ok.ensures.ok

pub returns-in-Err-clause-hears : goal.returns-in-Err-clause-hears
returns-in-Err-clause-hears g c = λ exports caller seen before stands.
    hears_rest_stopped (given.F-step g) exports caller before c.in-Err.ended seen c.args.self.now c.answer.new.self
    c.args.apply.now c.answer.new.apply (g.O.Sink.written c.args.writer.now) (g.O.Sink.written c.answer.new.writer)
    stands (c.is_at_start.ensures.no c.if-is_at_start.false) c.in-Err.ensures.err
