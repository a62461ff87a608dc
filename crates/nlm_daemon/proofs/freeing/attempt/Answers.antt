use Rattle.std.proofs.Common.{refl}
use Rattle.std.proofs.lemmas.Result.{err_from_is_err_and}
use Rattle.side_wire.specs.declared.nlm.NlmCall.TheVariants as nlm
use Rattle.nfs_machine.specs.declared.calls.Call.TheVariants as calls
use Rattle.nfs_objects.specs.Attempt.{unless_seen}
use Rattle.nfs_objects.specs.declared.address.Addr.TheVariants as addresses
use Rattle.nfs_objects.specs.declared.change.Change.{Change}
use Rattle.nlm_daemon.proofs.NlmWantsLemmas.{ends-first, ends-stopped, wanted-alone}
use Rattle.nlm_daemon.proofs.NlmHandleLemmas.{first-halts, first-past}
use Rattle.nlm_daemon.proofs.GrantEndsLemmas.{freed-promised}
use Rattle.nlm_daemon.proofs.BucketWishLemmas.{all_places}
use Rattle.nlm_daemon.proofs.freeing.attempt.Goals as goal

pub free_all-requires-clause-none : goal.free_all-requires-clause-none
free_all-requires-clause-none c = c.requires.none

pub free_all-requires-clause-alone : goal.free_all-requires-clause-alone
free_all-requires-clause-alone c = rw c.requires.modes refl

pub returns-in_err-free_all-clause-ends : goal.returns-in_err-free_all-clause-ends
returns-in_err-free_all-clause-ends c =
    let p = err_from_is_err_and c.from_residual.result c.from_residual.ensures.1 in
    rw (p.1, p.2)
    (ends-stopped (calls.Nlm (nlm.FreeAll c.args.arguments.now)) c.args.draft c.requires all_places refl _
    c.in_err-free_all.ensures.frees)

pub returns-in_err-free_all-clause-first : goal.returns-in_err-free_all-clause-first
returns-in_err-free_all-clause-first c =
    let p = err_from_is_err_and c.from_residual.result c.from_residual.ensures.1 in
    rw (p.1, p.2)
    (ends-first (calls.Nlm (nlm.FreeAll c.args.arguments.now)) c.args.draft c.requires
    (unless_seen c.args.draft.view addresses.Exports) (wanted-alone c.args.draft.view) _
    (first-halts (Unit {0}) Change c.args.draft.modes c.args.draft.view _ _ c.in_err-free_all.ensures.first))

pub returns-clause-ends : goal.returns-clause-ends
returns-clause-ends c =
    freed-promised c.args.draft c.free_all.new.draft c.args.arguments.now c.requires _ _
    (rw c.as_slice.ensures at c.in_ok-free_all.ensures.frees) c.answer.ensures.value c.answer.ensures.held
    c.answer.ensures.given

pub returns-clause-first : goal.returns-clause-first
returns-clause-first c =
    ends-first (calls.Nlm (nlm.FreeAll c.args.arguments.now)) c.args.draft c.requires
    (unless_seen c.args.draft.view addresses.Exports) (wanted-alone c.args.draft.view) _
    (first-past c.args.draft.modes c.args.draft.view _ _ c.in_ok-free_all.ensures.first _)
