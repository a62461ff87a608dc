use Rattle.side_wire.specs.declared.nlm.NlmCall.TheVariants as nlm
use Rattle.side_wire.specs.declared.nlm.NlmReply.TheVariants as replies
use Rattle.nfs_machine.specs.declared.calls.Call.TheVariants as calls
use Rattle.nlm_daemon.proofs.NlmAnswerLemmas.{passed-promised, step-null}
use Rattle.nlm_daemon.proofs.passing.null.Goals as goal

pub returns-clause-ends : goal.returns-clause-ends
returns-clause-ends c =
    passed-promised c.args.draft (calls.Nlm nlm.Null) c.requires replies.Null _ c.answer.ensures.value
    c.answer.ensures.held c.answer.ensures.given (λ m. step-null m c.args.draft.ctx)
