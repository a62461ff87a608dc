use Rattle.std.proofs.Common.{◌∷◌, inr, subst, sym}
use Rattle.std.proofs.lemmas.Result.{err_from_is_err_and}
use Rattle.nfs_objects.proofs.PromiseLemmas.{does-nothing}
use Rattle.nfs_objects.specs.Calls.{locks_at, locks_under}
use Rattle.nfs_inodes.proofs.StandsLemmas.{known-lives}
use Rattle.nfs_names.proofs.RemoveLemmas.{refused-end, taken-does, untaken-end}
use Rattle.nfs_names.proofs.NamedLocksLemmas.{both-stop-locked, led-so, under-named}
use Rattle.nfs_names.specs.Removes.{IsTakenEnd}
use Rattle.nfs_objects.specs.declared.address.Addr.TheVariants as addresses
use Rattle.nfs_inodes.proofs.ReaderHaltLemmas.{any-stops, exports-stop-at}
use Rattle.nfs_inodes.specs.declared.found.Known.{Known}
use Rattle.nfs_inodes.specs.Kinds.{IsShown}
use Rattle.nfs_names.proofs.remove.take.Goals as goal

pub returns-in_err-exports : goal.returns-in_err-exports
returns-in_err-exports c =
    let p = err_from_is_err_and c.from_residual.result c.from_residual.ensures.1 in
    rw (p.1, p.2) (exports-stop-at c.args.draft.now
    (addresses.Exports ∷ locks_under c.args.draft.now.view c.args.place.now) _ c.in_err-exports.ensures.exports)

pub returns-in-Err : goal.returns-in-Err
returns-in-Err c =
    let d = c.args.draft.now in
    does-nothing d (IsTakenEnd c.args.taking d.ctx c.args.place.now) c.in-Err.status
    (refused-end c.args.taking d c.args.place.now c.args.known.now c.requires.names _ c.in_ok-exports.ensures.exports
    c.in-Err.status
    (rw (c.ctx.ensures, c.as_slice-name.ensures, c.above.ensures, c.in-Err.is) at c.changed_directory.ensures.checks))

pub returns-in_err-object : goal.returns-in_err-object
returns-in_err-object c =
    let p = err_from_is_err_and c.from_residual-in_err-object.result c.from_residual-in_err-object.ensures.1 in
    rw (p.1, p.2) (any-stops c.args.draft.now
    (addresses.Exports ∷ locks_under c.args.draft.now.view c.args.place.now) _ c.in_err-object.ensures.found)

pub returns-in-Err-2 : goal.returns-in-Err-2
returns-in-Err-2 c =
    let d = c.args.draft.now in
    does-nothing d (IsTakenEnd c.args.taking d.ctx c.args.place.now) c.in-Err-2.status
    (untaken-end c.args.taking d c.args.place.now c.args.known.now c.requires.names _ c.in_ok-exports.ensures.exports
    c.in-Ok.directory c.in-Ok.ensures.known
    (rw (c.ctx.ensures, c.as_slice-name.ensures, c.above.ensures, c.in-Ok.is) at c.changed_directory.ensures.checks)
    c.in-Err-2.status
    (rw (c.in-Ok.ensures.known, c.as_slice-name.ensures, c.in-Err-2.is) at c.in_ok-object.ensures.found))

pub returns-in_err-take_name : goal.returns-in_err-take_name
returns-in_err-take_name c =
    let p = err_from_is_err_and c.from_residual-in_err-take_name.result c.from_residual-in_err-take_name.ensures.1 in
    let takable = rw c.in-Ok-2.is at c.in_ok-object.ensures.found in
    rw (p.1, p.2) (both-stop-locked c.args.draft.now c.in-Ok.directory.known.number c.in-Ok-2.object.number
    (locks_at c.in-Ok-2.object.number) (addresses.Exports ∷ locks_under c.args.draft.now.view c.args.place.now) _
    (rw c.in-Ok.ensures.known (known-lives c.args.draft.now c.args.known.now c.requires.none
    (λ s k w. (c.requires.names s k w).known)))
    (known-lives c.args.draft.now c.in-Ok-2.object c.requires.none (λ s k w. (takable s k w).known))
    (λ a among. inr (under-named c.args.draft.now.view c.args.place.now c.args.known.now.number c.requires.number
    c.in-Ok-2.object.number
    (led-so c.args.draft.now.view c.in-Ok.directory.known c.args.known.now _ c.args.place.now.name _
    c.in-Ok-2.object c.in-Ok.ensures.known c.as_slice-name.ensures c.in-Ok-2.is c.in_ok-object.ensures.led) a among))
    c.in_err-take_name.ensures)

pub returns : goal.returns
returns c =
    let d = c.args.draft.now in
    taken-does c.args.taking d c.args.place.now c.args.known.now c.requires.names _ c.in_ok-exports.ensures.exports
    c.in-Ok.directory c.in-Ok.ensures.known
    (rw (c.ctx.ensures, c.as_slice-name.ensures, c.above.ensures, c.in-Ok.is) at c.changed_directory.ensures.checks)
    c.in-Ok-2.object
    (rw (c.in-Ok.ensures.known, c.as_slice-name.ensures, c.in-Ok-2.is) at c.in_ok-object.ensures.found)
    c.take_name.new.draft
    (rw (c.in-Ok.ensures.known, c.as_slice-name.ensures) at c.in_ok-take_name.ensures)

pub take_name-requires-clause-shown : goal.take_name-requires-clause-shown
take_name-requires-clause-shown c = subst (λ (z : Known). IsShown c.args.draft.now z) (sym c.in-Ok.ensures.known)
    c.requires.shown
