use Rattle.std.proofs.Common.{◌++◌, subst, sym}
use Rattle.std.proofs.lemmas.Result.{err_from_is_err_and}
use Rattle.nfs_objects.specs.Calls.{added_at, next_places, usages_of}
use Rattle.nfs_inodes.proofs.ReaderHaltLemmas.{exports-stop, halts-as}
use Rattle.nfs_inodes.proofs.StandsLemmas.{known-lives}
use Rattle.nfs_inodes.specs.Kinds.{IsShown}
use Rattle.nfs_inodes.specs.Stops.{StopsMaking, brought_by}
use Rattle.nfs_inodes.specs.declared.found.Known.{Known}
use Rattle.nfs_names.proofs.MakeObjectLemmas.{front-making, lives-making, new-stops}
use Rattle.nfs_names.proofs.make.ask_in.Goals as goal

pub returns-in_err-exports : goal.returns-in_err-exports
returns-in_err-exports c =
    let p = err_from_is_err_and c.from_residual.result c.from_residual.ensures.1 in
    rw (p.1, p.2) (front-making c.args.draft.now (brought_by c.args.draft.now.view c.args.place.now.directory)
    (added_at c.args.draft.now.view c.args.place.now) _
    (exports-stop c.args.draft.now c.args.place.now.directory _ c.in_err-exports.ensures.exports))

pub returns-in_err-entry : goal.returns-in_err-entry
returns-in_err-entry c =
    let p = err_from_is_err_and c.from_residual-in_err-entry.result c.from_residual-in_err-entry.ensures.1 in
    let stops = rw c.in-Ok.ensures.known at c.in_err-entry.ensures.entry in
    rw (p.1, p.2) (lives-making c.args.draft.now c.args.known.now.number
    (brought_by c.args.draft.now.view c.args.place.now.directory ++ added_at c.args.draft.now.view c.args.place.now) _
    (known-lives c.args.draft.now c.args.known.now c.requires.none (λ s k w. (c.requires.names s k w).known)) stops)

pub ask_new-requires-clause-shown : goal.ask_new-requires-clause-shown
ask_new-requires-clause-shown c =
    subst (λ (z : Known). IsShown c.args.draft.now z) (sym c.in-Ok.ensures.known) c.requires.shown

pub ask_new-requires-clause-lives : goal.ask_new-requires-clause-lives
ask_new-requires-clause-lives c =
    rw c.in-Ok.ensures.known
    (known-lives c.args.draft.now c.args.known.now c.requires.none (λ s k w. (c.requires.names s k w).known))

pub returns : goal.returns
returns c =
    let d = c.args.draft.now in
    let place = c.args.place.now in
    let x = c.in-Ok.accepted.directory.known in
    let name = c.as_slice-name.result.now in
    halts-as (StopsMaking d (usages_of x.export 64 ++ next_places d.view x.number name))
    (StopsMaking d (brought_by d.view place.directory ++ added_at d.view place)) _
    (λ halt stops. new-stops d place x c.args.known.now name halt c.in-Ok.ensures.known c.as_slice-name.ensures
    c.requires.usage c.requires.number stops)
    c.ask_new.ensures
