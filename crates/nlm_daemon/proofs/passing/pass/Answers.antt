use Rattle.std.proofs.lemmas.Result.{err_from_is_err_and}
use Rattle.nfs_machine.specs.declared.calls.Call.TheVariants as calls
use Rattle.nfs_objects.specs.declared.address.Addr.TheVariants as addresses
use Rattle.nfs_objects.specs.declared.change.Change.{Change}
use Rattle.nfs_inodes.proofs.ReaderHaltLemmas.{lacking-first-at}
use Rattle.nlm_daemon.proofs.NlmWantsLemmas.{alone-ends, alone-first, alone-never, passing-of}
use Rattle.nlm_daemon.proofs.NlmHandleLemmas.{first-past}
use Rattle.nlm_daemon.proofs.NlmAnswerLemmas.{passed-promised, step-passed}
use Rattle.nlm_daemon.specs.Answering.{reply_passed}
use Rattle.nlm_daemon.proofs.passing.pass.Goals as goal

pub returns-in_err-exports-clause-ends : goal.returns-in_err-exports-clause-ends
returns-in_err-exports-clause-ends c =
    let p = err_from_is_err_and c.from_residual.result c.from_residual.ensures.1 in
    rw (p.1, p.2)
    (alone-ends (calls.Nlm c.args.call.now) c.args.draft c.requires.begins
    (passing-of c.args.call.now c.requires.passes) _
    c.in_err-exports.ensures.exports)

pub returns-in_err-exports-clause-first : goal.returns-in_err-exports-clause-first
returns-in_err-exports-clause-first c =
    let p = err_from_is_err_and c.from_residual.result c.from_residual.ensures.1 in
    rw (p.1, p.2)
    (alone-first (calls.Nlm c.args.call.now) c.args.draft c.requires.begins
    (passing-of c.args.call.now c.requires.passes)
    _ (lacking-first-at Change c.args.draft addresses.Exports _ c.in_err-exports.ensures.reads))

pub returns-in_err-exports-clause-only : goal.returns-in_err-exports-clause-only
returns-in_err-exports-clause-only c = λ seen.
    absurd (alone-never (calls.Nlm c.args.call.now) c.args.draft c.requires.begins
    (passing-of c.args.call.now c.requires.passes) seen _ c.in_err-exports.ensures.reads)

pub returns-in_err-exports-clause-at_once : goal.returns-in_err-exports-clause-at_once
returns-in_err-exports-clause-at_once c = λ seen.
    absurd (alone-never (calls.Nlm c.args.call.now) c.args.draft c.requires.begins
    (passing-of c.args.call.now c.requires.passes) seen _ c.in_err-exports.ensures.reads)

pub returns-clause-ends : goal.returns-clause-ends
returns-clause-ends c =
    passed-promised c.args.draft (calls.Nlm c.args.call.now) c.requires.begins (reply_passed c.args.call.now) _
    (rw c.reply_to.ensures at c.answer.ensures.value) c.answer.ensures.held c.answer.ensures.given
    (λ m. step-passed m c.args.draft.ctx c.args.call.now c.requires.passes)

pub returns-clause-first : goal.returns-clause-first
returns-clause-first c =
    alone-first (calls.Nlm c.args.call.now) c.args.draft c.requires.begins
    (passing-of c.args.call.now c.requires.passes)
    _ (first-past c.args.draft.modes c.args.draft.view _ _ (c.in_ok-exports.ensures.first c.requires.begins.none) _)
