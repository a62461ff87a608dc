use Rattle.std.proofs.Common.{None, Some, [], ◌++◌, refl, subst, sym}
use Rattle.std.proofs.lemmas.Result.{err_from_is_err_and}
use Rattle.nfs_wire.specs.declared.calls.NfsCall.TheVariants as nfs
use Rattle.nfs_machine.specs.declared.calls.Call.TheVariants as calls
use Rattle.nfs_objects.proofs.KnowsLemmas.{covers-among, stops-wider}
use Rattle.nfs_objects.specs.Calls.{added_at, locks_at, named_by}
use Rattle.nfs_inodes.proofs.ReaderHaltLemmas.{any-stops, exports-stop-at, halts-as}
use Rattle.nfs_inodes.specs.Kinds.{IsShown}
use Rattle.nfs_inodes.specs.Known.{HasNumber}
use Rattle.nfs_inodes.specs.Stops.{StopsAt}
use Rattle.nfs_inodes.specs.declared.found.Known.{Known}
use Rattle.nfs_names.proofs.HeldAloneLemmas.{led-as}
use Rattle.nfs_names.proofs.NamedLocksLemmas.{rename-names}
use Rattle.nfs_names.proofs.RenameLemmas.{is-renaming}
use Rattle.nfs_names.proofs.rename.ask_renamed.Goals as goal

pub returns-in_err-exports : goal.returns-in_err-exports
returns-in_err-exports c =
    let p = err_from_is_err_and c.from_residual.result c.from_residual.ensures.1 in
    rw (p.1, p.2) (exports-stop-at c.args.draft.now
    (named_by (calls.Nfs (nfs.Rename c.args.arguments.now)) c.args.draft.now.view) _ c.in_err-exports.ensures.exports)

pub object_under-requires-clause-known : goal.object_under-requires-clause-known
object_under-requires-clause-known c = rw c.in-Ok.ensures.from (λ s k w. (c.requires.from s k w).known)

pub returns-in_err-moved : goal.returns-in_err-moved
returns-in_err-moved c =
    let p = err_from_is_err_and c.from_residual-in_err-moved.result c.from_residual-in_err-moved.ensures.1 in
    rw (p.1, p.2) (any-stops c.args.draft.now
    (named_by (calls.Nfs (nfs.Rename c.args.arguments.now)) c.args.draft.now.view) _ c.in_err-moved.ensures.finds)

pub object_under-requires-2-clause-known : goal.object_under-requires-2-clause-known
object_under-requires-2-clause-known c = rw c.in-Ok.ensures.to (λ s k w. (c.requires.to s k w).known)

pub returns-in_err-replaced : goal.returns-in_err-replaced
returns-in_err-replaced c =
    let p = err_from_is_err_and c.from_residual-in_err-replaced.result c.from_residual-in_err-replaced.ensures.1 in
    rw (p.1, p.2) (any-stops c.args.draft.now
    (named_by (calls.Nfs (nfs.Rename c.args.arguments.now)) c.args.draft.now.view) _ c.in_err-replaced.ensures.finds)

pub ask_found-requires-clause-finds : goal.ask_found-requires-clause-finds
ask_found-requires-clause-finds c =
    is-renaming c.args.draft.now c.args.arguments.now c.args.from.now c.args.to.now c.requires.from c.requires.to _
    c.in_ok-exports.ensures.exports c.in-Ok.places
    (rw (c.ctx.ensures, c.in-Ok.is) at c.movable.ensures.checks) c.in-Ok.ensures.from c.in-Ok.ensures.to
    c.in-Ok.ensures.one c.in-Some.moved c.in_ok-replaced.replaced
    (rw (c.in-Ok.ensures.from, c.as_slice.ensures, c.in-Some.is) at c.in_ok-moved.ensures.finds)
    (rw (c.in-Ok.ensures.to, c.as_slice-2.ensures) at c.in_ok-replaced.ensures.finds)

pub ask_found-requires-clause-shown : goal.ask_found-requires-clause-shown
ask_found-requires-clause-shown c = (
  subst (λ (z : Known). IsShown c.args.draft.now z) (sym c.in-Ok.ensures.from) c.requires.shown.0,
  subst (λ (z : Known). IsShown c.args.draft.now z) (sym c.in-Ok.ensures.to) c.requires.shown.1,
)

pub ask_found-requires-clause-target : goal.ask_found-requires-clause-target
ask_found-requires-clause-target c =
    subst (λ (z : Known). HasNumber c.args.arguments.now.to.directory z.number) (sym c.in-Ok.ensures.to)
    c.requires.target

pub returns : goal.returns
returns c =
    let d = c.args.draft.now in
    let a = c.args.arguments.now in
    let few = added_at d.view a.to ++ elim c.in_ok-replaced.replaced [ None ↦ [] | Some x ↦ locks_at x.number ] in
    let named = named_by (calls.Nfs (nfs.Rename a)) d.view in
    halts-as (StopsAt d few) (StopsAt d named) _
    (λ halt. stops-wider d.modes few named 0 d.view halt (covers-among few named d.view
    (rename-names d.view a c.args.to.now.number c.requires.target c.in_ok-replaced.replaced
    (led-as d.view c.in-Ok.places.to.known c.args.to.now _ a.to.name _ c.in_ok-replaced.replaced c.in-Ok.ensures.to
    c.as_slice-2.ensures refl c.in_ok-replaced.ensures.led))))
    c.ask_found.ensures
