use Rattle.std.proofs.lemmas.Result.{err_from_is_err_and}
use Rattle.nfs_inodes.proofs.StandsLemmas.{known-lives}
use Rattle.nfs_names.proofs.FittingPageLemmas.{front-lives, page-listed, page-refused}
use Rattle.nfs_names.specs.Pages.{fit_of}
use Rattle.nfs_inodes.proofs.ReaderHaltLemmas.{lives-stops}
use Rattle.nfs_names.proofs.page.page_in.Goals as goal

pub returns-in-Err-clause-page : goal.returns-in-Err-clause-page
returns-in-Err-clause-page c =
    page-refused c.args.draft.now c.args.known.now c.args.asked.now c.requires.known c.in-Err.status
    (rw (c.ctx.ensures, c.in-Err.is) at c.listable.ensures.checks)

pub returns-in_err-left-clause-page : goal.returns-in_err-left-clause-page
returns-in_err-left-clause-page c =
    let p = err_from_is_err_and c.from_residual.result c.from_residual.ensures.1 in
    rw (p.1, p.2) (lives-stops c.args.draft.now c.args.known.now.number _
    (known-lives c.args.draft.now c.args.known.now c.requires.none c.requires.known)
    (rw c.in-Ok.ensures.known at c.in_err-left.ensures.left))

pub returns-clause-page : goal.returns-clause-page
returns-clause-page c =
    page-listed c.args.draft.now c.args.known.now c.args.asked.now c.requires.known c.in-Ok.directory
    (rw (c.ctx.ensures, c.in-Ok.is) at c.listable.ensures.checks) c.in_ok-left.left.entries
    c.in_ok-left.left.is_all c.too_many.result c.too_many.ensures
    (rw c.in-Ok.ensures.known at c.in_ok-left.ensures.left) _ c.in_ok-longest_page.ensures

pub returns-clause-lives : goal.returns-clause-lives
returns-clause-lives c =
    front-lives c.args.draft.now.view (fit_of c.args.asked.now.budget) c.in_ok-left.left.entries _
    c.in_ok-left.ensures.lives
    c.in_ok-longest_page.ensures
