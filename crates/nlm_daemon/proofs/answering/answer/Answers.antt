use Rattle.nlm_daemon.proofs.NlmAnswerLemmas.{is-answered}
use Rattle.nlm_daemon.proofs.answering.answer.Goals as goal

pub returns : goal.returns
returns c =
    is-answered c.args.draft c.send_result.new.draft c.args.procedure c.args.cookie.now c.args.status _
    c.in_ok-reply.reply c.in_ok-send_result.ensures c.in_ok-reply.ensures c.answer.ensures.value c.answer.ensures.held
    c.answer.ensures.given
