use Rattle.std.proofs.Common.{◌∷◌, refl}
use Rattle.std.proofs.lemmas.Result.{err_from_is_err_and}
use Rattle.side_wire.specs.declared.nlm.NlmCall.TheVariants as nlm
use Rattle.nfs_machine.specs.declared.calls.Call.TheVariants as calls
use Rattle.nfs_objects.specs.Attempt.{unless_seen}
use Rattle.nfs_objects.specs.declared.address.Addr.TheVariants as addresses
use Rattle.nfs_inodes.proofs.ReaderHaltLemmas.{exports-stop-at, lacking-first-at}
use Rattle.nlm_daemon.proofs.NlmWantsLemmas.{ends-first, ends-stopped, wanted-alone}
use Rattle.nlm_daemon.proofs.NlmHandleLemmas.{first-past}
use Rattle.nlm_daemon.proofs.GrantEndsLemmas.{grant-stopped, none-promised, some-promised}
use Rattle.nlm_daemon.specs.Granted.{grant_places}
use Rattle.nfs_objects.specs.declared.change.Change.{Change}
use Rattle.nlm_daemon.proofs.granting.attempt_res.Goals as goal

pub end_grant-requires-clause-alone : goal.end_grant-requires-clause-alone
end_grant-requires-clause-alone c = rw c.requires.modes refl

pub end_grant-requires-clause-knows : goal.end_grant-requires-clause-knows
end_grant-requires-clause-knows c = λ s k w formed. ((rw c.in-Some.is at c.in_ok-pending.ensures) s k w formed).1

pub returns-in_err-exports-clause-ends : goal.returns-in_err-exports-clause-ends
returns-in_err-exports-clause-ends c =
    let p = err_from_is_err_and c.from_residual.result c.from_residual.ensures.1 in
    rw (p.1, p.2)
    (ends-stopped (calls.Nlm (nlm.GrantedRes c.args.answer.now)) c.args.draft c.requires
    (addresses.Exports ∷ grant_places c.args.answer.now.cookie) refl _
    (exports-stop-at c.args.draft (addresses.Exports ∷ grant_places c.args.answer.now.cookie) _
    c.in_err-exports.ensures.exports))

pub returns-in_err-exports-clause-first : goal.returns-in_err-exports-clause-first
returns-in_err-exports-clause-first c =
    let p = err_from_is_err_and c.from_residual.result c.from_residual.ensures.1 in
    rw (p.1, p.2)
    (ends-first (calls.Nlm (nlm.GrantedRes c.args.answer.now)) c.args.draft c.requires
    (unless_seen c.args.draft.view addresses.Exports) (wanted-alone c.args.draft.view) _
    (lacking-first-at Change c.args.draft addresses.Exports _ c.in_err-exports.ensures.reads))

pub returns-in_err-pending-clause-ends : goal.returns-in_err-pending-clause-ends
returns-in_err-pending-clause-ends c =
    let p = err_from_is_err_and c.from_residual-in_err-pending.result c.from_residual-in_err-pending.ensures.1 in
    rw (p.1, p.2)
    (ends-stopped (calls.Nlm (nlm.GrantedRes c.args.answer.now)) c.args.draft c.requires
    (addresses.Exports ∷ grant_places c.args.answer.now.cookie) refl _ c.in_err-pending.ensures)

pub returns-in_err-pending-clause-first : goal.returns-in_err-pending-clause-first
returns-in_err-pending-clause-first c =
    ends-first (calls.Nlm (nlm.GrantedRes c.args.answer.now)) c.args.draft c.requires
    (unless_seen c.args.draft.view addresses.Exports) (wanted-alone c.args.draft.view) _
    (first-past c.args.draft.modes c.args.draft.view _ _ (c.in_ok-exports.ensures.first c.requires.none) _)

pub returns-in_default-clause-ends : goal.returns-in_default-clause-ends
returns-in_default-clause-ends c =
    none-promised c.args.draft c.args.answer.now c.requires _ (rw c.in_default.is at c.in_ok-pending.ensures)
    c.answer.ensures.value c.answer.ensures.held c.answer.ensures.given

pub returns-in_default-clause-first : goal.returns-in_default-clause-first
returns-in_default-clause-first c =
    ends-first (calls.Nlm (nlm.GrantedRes c.args.answer.now)) c.args.draft c.requires
    (unless_seen c.args.draft.view addresses.Exports) (wanted-alone c.args.draft.view) _
    (first-past c.args.draft.modes c.args.draft.view _ _ (c.in_ok-exports.ensures.first c.requires.none) _)

pub returns-in_err-end_grant-clause-ends : goal.returns-in_err-end_grant-clause-ends
returns-in_err-end_grant-clause-ends c =
    let p = err_from_is_err_and c.from_residual-in_err-end_grant.result c.from_residual-in_err-end_grant.ensures.1 in
    rw (p.1, p.2)
    (grant-stopped c.args.draft c.args.answer.now c.requires c.in-Some.pending
    (rw c.in-Some.is at c.in_ok-pending.ensures) _ c.in_err-end_grant.ensures)

pub returns-in_err-end_grant-clause-first : goal.returns-in_err-end_grant-clause-first
returns-in_err-end_grant-clause-first c =
    ends-first (calls.Nlm (nlm.GrantedRes c.args.answer.now)) c.args.draft c.requires
    (unless_seen c.args.draft.view addresses.Exports) (wanted-alone c.args.draft.view) _
    (first-past c.args.draft.modes c.args.draft.view _ _ (c.in_ok-exports.ensures.first c.requires.none) _)

pub returns-clause-ends : goal.returns-clause-ends
returns-clause-ends c =
    some-promised c.args.draft c.args.answer.now c.requires _ c.in-Some.pending c.end_grant.new.draft _
    (rw c.in-Some.is at c.in_ok-pending.ensures) c.in_ok-end_grant.ensures c.answer-2.ensures.value
    c.answer-2.ensures.held c.answer-2.ensures.given

pub returns-clause-first : goal.returns-clause-first
returns-clause-first c =
    ends-first (calls.Nlm (nlm.GrantedRes c.args.answer.now)) c.args.draft c.requires
    (unless_seen c.args.draft.view addresses.Exports) (wanted-alone c.args.draft.view) _
    (first-past c.args.draft.modes c.args.draft.view _ _ (c.in_ok-exports.ensures.first c.requires.none) _)
