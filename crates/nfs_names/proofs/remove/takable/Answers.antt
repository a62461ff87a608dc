use Rattle.std.proofs.Common.{Some, ap, sym, ◌∙◌}
use Rattle.std.proofs.lemmas.Result.{err_from_is_err_and}
use Rattle.nfs_inodes.proofs.StandsLemmas.{known-lives}
use Rattle.nfs_names.proofs.RemoveLemmas.{judged-bad, judged-good, nothing-lives, nothing-named}
use Rattle.nfs_inodes.proofs.ReaderHaltLemmas.{lives-stops}
use Rattle.nfs_names.proofs.remove.takable.Goals as goal

pub returns-in_err-number-clause-found : goal.returns-in_err-number-clause-found
returns-in_err-number-clause-found c =
    let p = err_from_is_err_and c.from_residual.result c.from_residual.ensures.1 in
    rw (p.1, p.2) (lives-stops c.args.draft.now c.args.directory.now.known.number _
    (known-lives c.args.draft.now c.args.directory.now.known c.requires.none c.requires.known)
    c.in_err-number.ensures.entry)

pub returns-in_default-clause-found : goal.returns-in_default-clause-found
returns-in_default-clause-found c =
    nothing-named c.args.taking c.args.draft.now c.args.directory.now.known.number c.args.name.now
    (rw c.in_default.is at c.in_ok-number.ensures.entry)

pub returns-in_default-2-clause-found : goal.returns-in_default-2-clause-found
returns-in_default-2-clause-found c =
    nothing-lives c.args.taking c.args.draft.now c.args.directory.now.known.number c.args.name.now c.in-Some.number
    (rw c.in-Some.is at c.in_ok-number.ensures.entry) (rw c.in_default-2.is at c.in_ok-object.ensures.object)

pub returns-in_err-verdict-clause-found : goal.returns-in_err-verdict-clause-found
returns-in_err-verdict-clause-found c =
    let p = err_from_is_err_and c.from_residual-in_err-verdict.result c.from_residual-in_err-verdict.ensures.1 in
    let there = rw c.in-Some-2.is at c.in_ok-object.ensures.object in
    rw (p.1, p.2) (lives-stops c.args.draft.now c.in-Some-2.object.number _
    (known-lives c.args.draft.now c.in-Some-2.object c.requires.none (λ s k w. (there s k w).1))
    c.in_err-verdict.ensures)

pub returns-in-Ok-clause-found : goal.returns-in-Ok-clause-found
returns-in-Ok-clause-found c =
    judged-good c.args.taking c.args.draft.now c.args.directory.now.known.number c.args.name.now c.in-Some.number
    (rw c.in-Some.is at c.in_ok-number.ensures.entry) c.in-Some-2.object
    (rw c.in-Some-2.is at c.in_ok-object.ensures.object) (rw c.in-Ok.is at c.in_ok-verdict.ensures)

pub returns-in-Err-clause-found : goal.returns-in-Err-clause-found
returns-in-Err-clause-found c =
    judged-bad c.args.taking c.args.draft.now c.args.directory.now.known.number c.args.name.now c.in-Some.number
    (rw c.in-Some.is at c.in_ok-number.ensures.entry) c.in-Some-2.object
    (rw c.in-Some-2.is at c.in_ok-object.ensures.object) c.in-Err.status (rw c.in-Err.is at c.in_ok-verdict.ensures)

pub returns-in-Ok-clause-led : goal.returns-in-Ok-clause-led
returns-in-Ok-clause-led c =
    (rw c.in-Some.is at c.in_ok-number.ensures.led)
    ∙ ap Some (sym (rw c.in-Some-2.is at c.in_ok-object.ensures.number))
