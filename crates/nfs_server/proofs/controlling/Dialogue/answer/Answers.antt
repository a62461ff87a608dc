-- What is sent is what the line is answered.
use Rattle.std.proofs.Common.{Option, ap, subst}
use Rattle.nfs_server.specs.Control.{ComesTo, bytes_of}
use Rattle.nfs_server.specs.declared.controlling.ControlAnswer.{ControlAnswer}
use Rattle.nfs_server.proofs.AnsweredLinesLemmas.{lists_of, sends_all}
use Rattle.nfs_server.proofs.controlling.Dialogue.answer.Given as given
use Rattle.nfs_server.proofs.controlling.Dialogue.answer.Goals as goal

pub returns-clause-ok : goal.returns-clause-ok
returns-clause-ok g c =
    sends_all (given.F-step g) c.args.self.now.lists c.answer_of-answered.new.self.lists
    (lists_of c.self.inside.commands c.self.inside.standing)
    c.args.apply.now c.answer_of-answered.new.apply c.args.self.now.held (g.O.Sink.written c.args.writer.now)
    (g.O.Sink.written c.send-sent.new.writer) (bytes_of c.in-Some.answer) c.bytes.result.now
    (λ line holds.
    subst
    (λ (o : Option ControlAnswer). ComesTo (given.F-step g) c.args.self.now.lists c.args.apply.now line o
    c.answer_of-answered.new.self.lists c.answer_of-answered.new.apply)
    c.in-Some.is (c.answer_of-answered.ensures.answers line holds))
    c.bytes.ensures (ap (λ v. v.lists) c.self.view_is) c.in-Ok.ensures.written
