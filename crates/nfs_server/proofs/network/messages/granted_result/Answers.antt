-- An answer is a header that is accepted and done, and a result behind it.
use Rattle.std.proofs.Common.{◌∙◌, sym, ap, subst}
use Rattle.std.proofs.lemmas.Result.{IfOk-weaker}
use Rattle.nfs_xdr.specs.Laws.{IsBytes}
use Rattle.nfs_xdr.specs.Reading.{read}
use Rattle.nfs_server.specs.CalledBack.{reply_header}
use Rattle.nfs_server.proofs.GrantedAnswerLemmas.{answer-found, done-header, none-undone, none-unread, none-without}
use Rattle.nfs_server.proofs.network.messages.granted_result.Goals as goal

pub returns-in_err-header-clause-garbage : goal.returns-in_err-header-clause-garbage
returns-in_err-header-clause-garbage c = λ garbage.
    none-unread c.args.xid c.args.answer.now c.in_err-header.field-0.0
    (ap (λ b. read reply_header b) (sym c.new-reader.ensures.value) ∙ c.in_err-header.ensures)

pub returns-then-not-is_done-clause-garbage : goal.returns-then-not-is_done-clause-garbage
returns-then-not-is_done-clause-garbage c = λ garbage.
    none-undone _ _ _ _ _ _ c.args.xid c.args.answer.now _
    (ap (λ b. read reply_header b) (sym c.new-reader.ensures.value) ∙ c.in_ok-header.ensures)
    (λ done. let is = c.is_done.ensures.1 done in let not_so = c.if-not-is_done.true in cc)

pub returns-clause-found : goal.returns-clause-found
returns-clause-found c =
    IfOk-weaker c.read_granted_result.result _ _ (λ granted.
    answer-found c.args.xid c.args.answer.now _ _ granted
    (subst IsBytes c.new-reader.ensures.value c.new-reader.ensures.bytes)
    (done-header _ _ _ _ _ _ c.args.xid c.args.answer.now _
    (ap (λ b. read reply_header b) (sym c.new-reader.ensures.value) ∙ c.in_ok-header.ensures)
    (c.is_done.ensures.0 c.if-not-is_done.false))) c.read_granted_result.ensures.found

pub returns-clause-garbage : goal.returns-clause-garbage
returns-clause-garbage c = λ garbage.
    none-without c.args.xid c.args.answer.now _ _
    (ap (λ b. read reply_header b) (sym c.new-reader.ensures.value) ∙ c.in_ok-header.ensures)
    (c.read_granted_result.ensures.garbage garbage)
