use Rattle.std.proofs.lemmas.Result.{err_from_is_err_and}
use Rattle.side_wire.specs.declared.nlm.NlmStatus.TheVariants as statuses
use Rattle.nlm_daemon.proofs.NlmWantsLemmas.{alone-ends, alone-first, alone-never, asks-nothing, ends-memory}
use Rattle.nlm_daemon.proofs.NlmWantsLemmas.{granting-of}
use Rattle.nlm_daemon.proofs.NlmHandleLemmas.{first-past}
use Rattle.nlm_daemon.proofs.NlmAnswerLemmas.{denied-promised, step-denied}
use Rattle.nlm_daemon.specs.Answering.{IsAnswered, granting_call}
use Rattle.nfs_objects.specs.declared.change.Change.{Change}
use Rattle.nfs_inodes.proofs.ReaderHaltLemmas.{lacking-first-at}
use Rattle.nfs_objects.specs.declared.address.Addr.TheVariants as addresses
use Rattle.nlm_daemon.proofs.granting.attempt.Goals as goal

pub returns-in_err-exports-clause-ends : goal.returns-in_err-exports-clause-ends
returns-in_err-exports-clause-ends c =
    let p = err_from_is_err_and c.from_residual.result c.from_residual.ensures.1 in
    rw (p.1, p.2)
    (alone-ends (granting_call c.args.procedure c.args.arguments.now) c.args.draft c.requires.begins
    (granting-of c.args.procedure c.args.arguments.now) _ c.in_err-exports.ensures.exports)

pub returns-in_err-exports-clause-first : goal.returns-in_err-exports-clause-first
returns-in_err-exports-clause-first c =
    let p = err_from_is_err_and c.from_residual.result c.from_residual.ensures.1 in
    rw (p.1, p.2)
    (alone-first (granting_call c.args.procedure c.args.arguments.now) c.args.draft c.requires.begins
    (granting-of c.args.procedure c.args.arguments.now) _
    (lacking-first-at Change c.args.draft addresses.Exports _ c.in_err-exports.ensures.reads))

pub returns-in_err-exports-clause-only : goal.returns-in_err-exports-clause-only
returns-in_err-exports-clause-only c = λ seen.
    absurd (alone-never (granting_call c.args.procedure c.args.arguments.now) c.args.draft c.requires.begins
    (granting-of c.args.procedure c.args.arguments.now) seen _ c.in_err-exports.ensures.reads)

pub returns-clause-ends : goal.returns-clause-ends
returns-clause-ends c =
    ends-memory (granting_call c.args.procedure c.args.arguments.now) c.args.draft c.args.draft.ctx c.answer.result
    (IsAnswered c.args.draft c.args.procedure c.args.arguments.now.cookie statuses.Denied) c.answer.ensures
    (λ change answered. denied-promised c.args.draft (granting_call c.args.procedure c.args.arguments.now)
    c.requires.begins c.args.procedure c.args.arguments.now.cookie change answered
    (λ m. step-denied m c.args.draft.ctx c.args.arguments.now c.args.procedure c.requires.grants))

pub returns-clause-first : goal.returns-clause-first
returns-clause-first c =
    alone-first (granting_call c.args.procedure c.args.arguments.now) c.args.draft c.requires.begins
    (granting-of c.args.procedure c.args.arguments.now) _
    (first-past c.args.draft.modes c.args.draft.view _ _ (c.in_ok-exports.ensures.first c.requires.begins.none) _)

pub returns-clause-only : goal.returns-clause-only
returns-clause-only c = λ seen. asks-nothing _ c.answer.result c.answer.ensures
