use Rattle.std.proofs.Common.{◌++◌, subst, sym}
use Rattle.std.proofs.lemmas.Result.{err_from_is_err_and}
use Rattle.nfs_objects.proofs.PromiseLemmas.{does-nothing}
use Rattle.nfs_objects.specs.Calls.{added_at}
use Rattle.nfs_inodes.proofs.ReaderHaltLemmas.{exports-stop}
use Rattle.nfs_inodes.proofs.StandsLemmas.{known-lives}
use Rattle.nfs_inodes.specs.Asked.{asked_as, wanted_as}
use Rattle.nfs_names.proofs.MakeObjectLemmas.{front-making, lives-making, new-as, new-ends, refused-end, there-ends}
use Rattle.nfs_names.specs.Making.{IsMakeEnd, there_as}
use Rattle.nfs_inodes.specs.Stops.{brought_by}
use Rattle.nfs_inodes.specs.declared.found.Known.{Known}
use Rattle.nfs_inodes.specs.Kinds.{IsShown}
use Rattle.nfs_names.proofs.make.make_in.Goals as goal

pub returns-in_err-exports : goal.returns-in_err-exports
returns-in_err-exports c =
    let p = err_from_is_err_and c.from_residual.result c.from_residual.ensures.1 in
    rw (p.1, p.2) (front-making c.args.draft.now (brought_by c.args.draft.now.view c.args.place.now.directory)
    (added_at c.args.draft.now.view c.args.place.now) _
    (exports-stop c.args.draft.now c.args.place.now.directory _ c.in_err-exports.ensures.exports))

pub returns-in-Err : goal.returns-in-Err
returns-in-Err c =
    let d = c.args.draft.now in
    let asked = asked_as c.args.asked in
    let there = there_as c.args.there d.ctx in
    does-nothing d (IsMakeEnd d.ctx c.args.place.now asked there) c.in-Err.status
    (refused-end d c.args.place.now asked there c.args.known.now c.requires.names _ c.in_ok-exports.ensures.exports
    c.in-Err.status (rw (c.ctx.ensures, c.as_slice-name.ensures, c.in-Err.is) at c.addable.ensures.checks))

pub returns-in_err-number : goal.returns-in_err-number
returns-in_err-number c =
    let p = err_from_is_err_and c.from_residual-in_err-number.result c.from_residual-in_err-number.ensures.1 in
    let entry = rw c.in-Ok.ensures.known at c.in_err-number.ensures.entry in
    rw (p.1, p.2) (lives-making c.args.draft.now c.args.known.now.number
    (brought_by c.args.draft.now.view c.args.place.now.directory ++ added_at c.args.draft.now.view c.args.place.now) _
    (known-lives c.args.draft.now c.args.known.now c.requires.none (λ s k w. (c.requires.names s k w).known)) entry)

pub make_new-requires-clause-exported : goal.make_new-requires-clause-exported
make_new-requires-clause-exported c = rw c.in-Ok.ensures.known c.requires.exported

pub make_new-requires-clause-lives : goal.make_new-requires-clause-lives
make_new-requires-clause-lives c =
    rw c.in-Ok.ensures.known
    (known-lives c.args.draft.now c.args.known.now c.requires.none (λ s k w. (c.requires.names s k w).known))

pub returns-in-Some : goal.returns-in-Some
returns-in-Some c =
    let d = c.args.draft.now in
    there-ends d c.args.place.now (asked_as c.args.asked) (there_as c.args.there d.ctx) c.args.known.now
    c.requires.names _ c.in_ok-exports.ensures.exports c.in-Ok.accepted
    (rw (c.ctx.ensures, c.as_slice-name.ensures, c.in-Ok.is) at c.addable.ensures.checks) _ c.in-Ok.ensures.wanted
    c.make_there.new.draft c.make_there.result c.in-Some.number
    (rw (c.in-Ok.ensures.known, c.as_slice-name.ensures, c.in-Some.is) at c.in_ok-number.ensures.entry)
    c.make_there.ensures

pub returns-in-None : goal.returns-in-None
returns-in-None c =
    let d = c.args.draft.now in
    new-ends d c.args.place.now (asked_as c.args.asked) (there_as c.args.there d.ctx) c.args.known.now
    c.requires.names _ c.in_ok-exports.ensures.exports c.in-Ok.accepted
    (rw (c.ctx.ensures, c.as_slice-name.ensures, c.in-Ok.is) at c.addable.ensures.checks) _ c.in-Ok.ensures.wanted
    c.make_new.new.draft c.make_new.result c.requires.usage c.requires.number
    (rw (c.in-Ok.ensures.known, c.as_slice-name.ensures, c.in-None.is) at c.in_ok-number.ensures.entry)
    (new-as d c.make_new.new.draft c.make_new.result (wanted_as c.in-Ok.accepted.wanted)
    c.in-Ok.accepted.directory.known
    c.args.known.now _ c.args.place.now.name c.in-Ok.ensures.known c.as_slice-name.ensures c.make_new.ensures)

pub make_new-requires-clause-shown : goal.make_new-requires-clause-shown
make_new-requires-clause-shown c = subst (λ (z : Known). IsShown c.args.draft.now z) (sym c.in-Ok.ensures.known)
    c.requires.shown
