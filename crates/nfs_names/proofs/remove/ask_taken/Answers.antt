use Rattle.std.proofs.Common.{◌∷◌, ◌++◌, inr, subst, sym}
use Rattle.std.proofs.lemmas.Result.{err_from_is_err_and}
use Rattle.nfs_objects.specs.Calls.{addresses_of, locks_at, locks_under}
use Rattle.nfs_objects.specs.declared.address.Addr.TheVariants as addresses
use Rattle.nfs_inodes.proofs.ReaderHaltLemmas.{any-stops, exports-stop-at, halts-as}
use Rattle.nfs_inodes.proofs.StandsLemmas.{known-lives}
use Rattle.nfs_inodes.proofs.UsageChangeLemmas.{usage-lives-first}
use Rattle.nfs_inodes.specs.Kinds.{IsShown}
use Rattle.nfs_inodes.specs.Stops.{StopsAt, counted_at}
use Rattle.nfs_inodes.specs.declared.found.Known.{Known}
use Rattle.nfs_names.proofs.NamedLocksLemmas.{led-so, lost-stops, under-named}
use Rattle.nfs_names.proofs.remove.ask_taken.Goals as goal

pub returns-in_err-exports : goal.returns-in_err-exports
returns-in_err-exports c =
    let p = err_from_is_err_and c.from_residual.result c.from_residual.ensures.1 in
    rw (p.1, p.2) (exports-stop-at c.args.draft.now
    (addresses.Exports ∷ locks_under c.args.draft.now.view c.args.place.now) _ c.in_err-exports.ensures.exports)

pub returns-in_err-object : goal.returns-in_err-object
returns-in_err-object c =
    let p = err_from_is_err_and c.from_residual-in_err-object.result c.from_residual-in_err-object.ensures.1 in
    rw (p.1, p.2) (any-stops c.args.draft.now
    (addresses.Exports ∷ locks_under c.args.draft.now.view c.args.place.now) _ c.in_err-object.ensures.found)

pub ask_lost-requires-clause-shown : goal.ask_lost-requires-clause-shown
ask_lost-requires-clause-shown c =
    subst (λ (z : Known). IsShown c.args.draft.now z) (sym c.in-Ok.ensures.known) c.requires.shown

pub returns : goal.returns
returns c =
    let d = c.args.draft.now in
    let place = c.in-Ok.directory.known.number in
    let n = c.in-Ok-2.object.number in
    let takable = rw c.in-Ok-2.is at c.in_ok-object.ensures.found in
    let all = addresses.Exports ∷ locks_under d.view c.args.place.now in
    halts-as (StopsAt d (addresses_of d.view place ++ (counted_at d n ++ locks_at n))) (StopsAt d all) _
    (λ halt stops. lost-stops d place n all halt
    (rw c.in-Ok.ensures.known (known-lives d c.args.known.now c.requires.none
    (λ s k w. (c.requires.names s k w).known)))
    (known-lives d c.in-Ok-2.object c.requires.none (λ s k w. (takable s k w).known))
    (usage-lives-first d n c.requires.none)
    (λ a among. inr (under-named d.view c.args.place.now c.args.known.now.number c.requires.number n
    (led-so d.view c.in-Ok.directory.known c.args.known.now _ c.args.place.now.name _
    c.in-Ok-2.object c.in-Ok.ensures.known c.as_slice-name.ensures c.in-Ok-2.is c.in_ok-object.ensures.led) a among))
    stops)
    c.ask_lost.ensures
