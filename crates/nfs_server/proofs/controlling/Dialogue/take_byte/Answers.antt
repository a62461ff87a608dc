use Rattle.std.proofs.Common.{rules, tests}
use Rattle.std.proofs.lemmas.Result.{IfErr-weaker, on_ok_weaker}
use Rattle.nfs_server.proofs.AnsweredLinesLemmas.{hears_stopped, stands_answered, stands_more}
use Rattle.nfs_server.proofs.controlling.Dialogue.take_byte.Given as given
use Rattle.nfs_server.proofs.controlling.Dialogue.take_byte.Goals as goal

pub returns-then-byte-eq10-clause-ok : goal.returns-then-byte-eq10-clause-ok
returns-then-byte-eq10-clause-ok g c =
    on_ok_weaker c.answer.result
    (λ writes exports caller seen before stands.
    stands_answered (given.F-step g) exports caller before seen c.args.byte c.args.self.now c.answer.new.self
    c.args.apply.now c.answer.new.apply (g.O.Sink.written c.args.writer.now) (g.O.Sink.written c.answer.new.writer)
    c.if-byte-eq10.true stands c.answer.ensures.line writes)
    c.answer.ensures.ok

pub returns-then-byte-eq10-clause-err : goal.returns-then-byte-eq10-clause-err
returns-then-byte-eq10-clause-err g c =
    IfErr-weaker c.answer.result _ _
    (λ ended stops exports caller seen before stands.
    hears_stopped (given.F-step g) exports caller before ended seen c.args.byte c.args.self.now c.answer.new.self
    c.args.apply.now c.answer.new.apply (g.O.Sink.written c.args.writer.now) (g.O.Sink.written c.answer.new.writer)
    c.if-byte-eq10.true stands stops)
    c.answer.ensures.err

pub returns-clause-ok : goal.returns-clause-ok
returns-clause-ok g c = λ exports caller seen before stands.
    stands_more (given.F-step g) exports caller before seen c.args.byte c.args.self.now c.push.new.self c.args.apply.now
    (g.O.Sink.written c.args.writer.now) stands (search (rules, tests)) c.push.ensures.lists c.push.ensures.line
