use Rattle.std.proofs.Common.{◌∷◌, [], subst, sym}
use Rattle.std.proofs.lemmas.Result.{err_from_is_err_and}
use Rattle.nfs_objects.specs.Calls.{added_at}
use Rattle.nfs_objects.specs.declared.address.Addr.TheVariants as addresses
use Rattle.nfs_inodes.proofs.ReaderHaltLemmas.{any-stops, exports-stop-at, halts-as, lives-stops}
use Rattle.nfs_inodes.proofs.StandsLemmas.{known-lives}
use Rattle.nfs_inodes.proofs.WriteAsksLemmas.{back-stops}
use Rattle.nfs_inodes.specs.Entered.{grown_at}
use Rattle.nfs_inodes.specs.Kinds.{IsShown}
use Rattle.nfs_inodes.specs.Stops.{StopsAt}
use Rattle.nfs_inodes.specs.declared.found.Known.{Known}
use Rattle.nfs_names.proofs.NameGrowsLemmas.{giving-as}
use Rattle.nfs_names.proofs.link.ask_linked.Goals as goal

pub returns-in_err-exports : goal.returns-in_err-exports
returns-in_err-exports c =
    let p = err_from_is_err_and c.from_residual.result c.from_residual.ensures.1 in
    rw (p.1, p.2) (exports-stop-at c.args.draft.now
    (addresses.Exports ∷ added_at c.args.draft.now.view c.args.arguments.now.place) _ c.in_err-exports.ensures.exports)

pub returns-in_err-entry : goal.returns-in_err-entry
returns-in_err-entry c =
    let p = err_from_is_err_and c.from_residual-in_err-entry.result c.from_residual-in_err-entry.ensures.1 in
    let stops = rw c.in-Ok.ensures.known at c.in_err-entry.ensures.entry in
    rw (p.1, p.2) (any-stops c.args.draft.now
    (addresses.Exports ∷ added_at c.args.draft.now.view c.args.arguments.now.place) _
    (lives-stops c.args.draft.now c.args.known.now.number _
    (known-lives c.args.draft.now c.args.known.now c.requires.none (λ s k w. (c.requires.directory s k w).known))
    stops))

pub returns-in_err-cookie : goal.returns-in_err-cookie
returns-in_err-cookie c =
    let p = err_from_is_err_and c.from_residual-in_err-cookie.result c.from_residual-in_err-cookie.ensures.1 in
    let stops = rw c.in-Ok.ensures.known at c.in_err-cookie.ensures.cookie in
    rw (p.1, p.2) (any-stops c.args.draft.now
    (addresses.Exports ∷ added_at c.args.draft.now.view c.args.arguments.now.place) _
    (lives-stops c.args.draft.now c.args.known.now.number _
    (known-lives c.args.draft.now c.args.known.now c.requires.none (λ s k w. (c.requires.directory s k w).known))
    stops))

pub ask_given-requires-clause-shown : goal.ask_given-requires-clause-shown
ask_given-requires-clause-shown c =
    subst (λ (z : Known). IsShown c.args.draft.now z) (sym c.in-Ok.ensures.known) c.requires.shown

pub returns-in-Some : goal.returns-in-Some
returns-in-Some c =
    let d = c.args.draft.now in
    let place = c.args.arguments.now.place in
    let known = c.args.known.now in
    halts-as (StopsAt d (grown_at d c.in-Ok.directory.known.number c.as_slice-name.result.now c.in-Some.cookie))
    (StopsAt d (addresses.Exports ∷ added_at d.view place)) _
    (λ halt stops. back-stops d (addresses.Exports ∷ []) (added_at d.view place) halt
    (giving-as d place c.in-Ok.directory.known known c.as_slice-name.result.now c.in-Some.cookie halt
    c.in-Ok.ensures.known c.as_slice-name.ensures c.requires.none c.requires.shown c.requires.target
    (rw (c.in-Ok.ensures.known, c.in-Some.is) at c.in_ok-cookie.ensures.next)
    (known-lives d known c.requires.none (λ s k w. (c.requires.directory s k w).known)) stops))
    c.ask_given.ensures
