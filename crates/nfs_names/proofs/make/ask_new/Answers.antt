use Rattle.std.proofs.Common.{◌++◌}
use Rattle.std.proofs.lemmas.Result.{err_from_is_err_and}
use Rattle.nfs_objects.specs.Calls.{next_places, usages_of}
use Rattle.nfs_inodes.proofs.ReaderHaltLemmas.{halts-as}
use Rattle.nfs_inodes.specs.Entered.{grown_at}
use Rattle.nfs_inodes.specs.Stops.{StopsMaking}
use Rattle.nfs_names.proofs.MakeObjectLemmas.{lives-making}
use Rattle.nfs_names.proofs.NameGrowsLemmas.{grown-making}
use Rattle.nfs_names.proofs.make.ask_new.Goals as goal

pub returns-in_err-cookie : goal.returns-in_err-cookie
returns-in_err-cookie c =
    let p = err_from_is_err_and c.from_residual.result c.from_residual.ensures.1 in
    rw (p.1, p.2) (lives-making c.args.draft.now c.args.directory.now.known.number
    (usages_of c.args.directory.now.known.export 64
    ++ next_places c.args.draft.now.view c.args.directory.now.known.number c.args.name.now) _ c.requires.lives
    c.in_err-cookie.ensures.cookie)

pub returns-in-Some : goal.returns-in-Some
returns-in-Some c =
    let d = c.args.draft.now in
    let x = c.args.directory.now.known in
    halts-as (StopsMaking d (grown_at d x.number c.args.name.now c.in-Some.cookie ++ usages_of x.export 64))
    (StopsMaking d (usages_of x.export 64 ++ next_places d.view x.number c.args.name.now)) _
    (λ halt stops. grown-making d x.number x.attributes.kind c.args.name.now c.in-Some.cookie x.export halt
    c.requires.none c.requires.shown (rw c.in-Some.is at c.in_ok-cookie.ensures.next) c.requires.lives stops)
    c.ask_made.ensures
