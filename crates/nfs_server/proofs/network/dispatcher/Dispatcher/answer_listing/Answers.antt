use Rattle.nfs_server.proofs.AnsweredLinesLemmas.{on_err}
use Rattle.nfs_server.proofs.ConversationLemmas.{adds_apart, cuts_all, cuts_apart, replied_along}
use Rattle.nfs_server.proofs.network.dispatcher.Dispatcher.answer_listing.Goals as goal

pub returns-in_err-answer-clause-cuts : goal.returns-in_err-answer-clause-cuts
returns-in_err-answer-clause-cuts g c =
    on_err c.from_residual-in_err-answer.result
    (cuts_all _ _ _ c.args.connection.now _ _ c.in_ok-send.ensures.ok)

pub returns-in_err-sent-clause-cuts : goal.returns-in_err-sent-clause-cuts
returns-in_err-sent-clause-cuts g c =
    on_err c.from_residual-in_err-sent.result
    (cuts_apart _ _ _ _ _
    (replied_along _ _ _ _ _ c.in_ok-answer.answer c.send.ensures.host c.in_ok-answer.ensures.answers
    c.in_ok-answer.ensures.last)
    c.args.connection.now c.send.new.connection c.put.new.connection _ _ _ c.send.ensures.sent c.in_ok-send.ensures.ok
    c.put.ensures.records c.put.ensures.waits c.in_err-sent.ensures.part)

pub returns-clause-adds : goal.returns-clause-adds
returns-clause-adds g c =
    adds_apart _ _ _ _ _
    (replied_along _ _ _ _ _ c.in_ok-answer.answer c.send.ensures.host c.in_ok-answer.ensures.answers
    c.in_ok-answer.ensures.last)
    c.args.connection.now c.send.new.connection c.put.new.connection _ _ _ c.send.ensures.sent c.in_ok-send.ensures.ok
    c.put.ensures.records c.put.ensures.waits c.send-sent.new.connection c.send-sent.ensures.sent
    c.in_ok-sent.ensures.ok
