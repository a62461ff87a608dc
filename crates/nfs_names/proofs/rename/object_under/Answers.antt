use Rattle.std.proofs.lemmas.Result.{err_from_is_err_and}
use Rattle.nfs_inodes.proofs.StandsLemmas.{known-lives}
use Rattle.nfs_names.proofs.HeldAloneLemmas.{led-number}
use Rattle.nfs_names.proofs.RenameLemmas.{reads-under, under-none}
use Rattle.nfs_inodes.proofs.ReaderHaltLemmas.{lives-stops}
use Rattle.nfs_names.proofs.rename.object_under.Goals as goal

pub returns-in_err-number-clause-finds : goal.returns-in_err-number-clause-finds
returns-in_err-number-clause-finds c =
    let p = err_from_is_err_and c.from_residual.result c.from_residual.ensures.1 in
    rw (p.1, p.2) (lives-stops c.args.draft.now c.args.directory.now.known.number _
    (known-lives c.args.draft.now c.args.directory.now.known c.requires.none c.requires.known)
    c.in_err-number.ensures.entry)

pub returns-in-Some-clause-finds : goal.returns-in-Some-clause-finds
returns-in-Some-clause-finds c =
    reads-under c.args.draft.now c.args.directory.now.known c.args.name.now c.in-Some.number c.object.result
    (rw c.in-Some.is at c.in_ok-number.ensures.entry) (rw c.in-Some.is at c.in_ok-number.ensures.lives)
    c.object.ensures.object

pub returns-in-None-clause-finds : goal.returns-in-None-clause-finds
returns-in-None-clause-finds c = under-none c.args.draft.now c.args.directory.now.known c.args.name.now
    (rw c.in-None.is at c.in_ok-number.ensures.entry)

pub returns-in-Some-clause-led : goal.returns-in-Some-clause-led
returns-in-Some-clause-led c =
    led-number c.args.draft.now.view c.args.directory.now.known.number c.args.name.now c.in-Some.number c.object.result
    (rw c.in-Some.is at c.in_ok-number.ensures.led) c.object.ensures.number
