use Rattle.std.proofs.lemmas.Result.{err_from_is_err_and}
use Rattle.nfs_inodes.proofs.StandsLemmas.{known-lives}
use Rattle.nfs_names.proofs.LookupLemmas.{check-refused, no-entry, no-object, object-found}
use Rattle.nfs_inodes.proofs.ReaderHaltLemmas.{lives-stops}
use Rattle.nfs_names.proofs.lookup.found.Goals as goal

pub returns-in-Err : goal.returns-in-Err
returns-in-Err c =
    check-refused c.args.draft.now c.args.known.now c.args.name.now c.requires.known c.in-Err.status
    (rw (c.ctx.ensures, c.in-Err.is) at c.searchable.ensures.checks)

pub returns-in_err-number : goal.returns-in_err-number
returns-in_err-number c =
    let p = err_from_is_err_and c.from_residual.result c.from_residual.ensures.1 in
    rw (p.1, p.2) (lives-stops c.args.draft.now c.args.known.now.number _
    (known-lives c.args.draft.now c.args.known.now c.requires.none c.requires.known)
    (rw c.in-Ok.ensures.known at c.in_err-number.ensures.leads))

pub returns-in_default : goal.returns-in_default
returns-in_default c =
    no-entry c.args.draft.now c.args.known.now c.args.name.now c.requires.known c.in-Ok.directory
    (rw (c.ctx.ensures, c.in-Ok.is) at c.searchable.ensures.checks)
    (rw (c.in-Ok.ensures.known, c.in_default.is) at c.in_ok-number.ensures.leads)

pub returns-in_default-2 : goal.returns-in_default-2
returns-in_default-2 c =
    no-object c.args.draft.now c.args.known.now c.args.name.now c.requires.known c.in-Ok.directory
    (rw (c.ctx.ensures, c.in-Ok.is) at c.searchable.ensures.checks) c.in-Some.number
    (rw (c.in-Ok.ensures.known, c.in-Some.is) at c.in_ok-number.ensures.leads)
    (rw c.in_default-2.is at c.in_ok-object.ensures.object)

pub returns : goal.returns
returns c =
    object-found c.args.draft.now c.args.known.now c.args.name.now c.requires.known c.in-Ok.directory
    (rw (c.ctx.ensures, c.in-Ok.is) at c.searchable.ensures.checks) c.in-Some.number
    (rw (c.in-Ok.ensures.known, c.in-Some.is) at c.in_ok-number.ensures.leads) c.in-Some-2.object _
    (rw c.in-Some-2.is at c.in_ok-object.ensures.object) (rw c.ctx-2.ensures at c.in_ok-handle.ensures)
