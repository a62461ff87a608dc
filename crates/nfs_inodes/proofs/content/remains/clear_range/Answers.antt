use Rattle.std.proofs.Common.{◌∙◌}
use Rattle.std.proofs.lemmas.Result.{err_from_is_err_and}
use Rattle.nfs_inodes.proofs.RemainsGoLemmas.{clears-result}
use Rattle.nfs_inodes.proofs.UsageChangeLemmas.{stands-on}
use Rattle.nfs_inodes.proofs.content.remains.clear_range.Goals as goal

pub returns-in_err-clear_page : goal.returns-in_err-clear_page
returns-in_err-clear_page c =
    let p = err_from_is_err_and c.from_residual.result c.from_residual.ensures.1 in
    rw (p.1, p.2) c.in_err-clear_page.ensures

pub clear_page-requires-2-clause-alone : goal.clear_page-requires-2-clause-alone
clear_page-requires-2-clause-alone c = c.in_ok-clear_page.ensures.turns.modes ∙ c.requires.alone

pub clear_page-requires-2-clause-shown : goal.clear_page-requires-2-clause-shown
clear_page-requires-2-clause-shown c =
    c.in_ok-clear_page.ensures.kinds c.args.file.now.known.number ∙ c.requires.shown

pub clear_page-requires-2-clause-stands : goal.clear_page-requires-2-clause-stands
clear_page-requires-2-clause-stands c =
    stands-on c.args.draft.now c.clear_page.new.draft (λ k. k) c.in_ok-clear_page.ensures.turns c.requires.stands

pub returns : goal.returns
returns c =
    clears-result c.args.draft.now c.clear_page.new.draft c.clear_page-2.new.draft c.args.file.now.known.number _ _
    c.clear_page-2.result (rw c.first_page.ensures at c.in_ok-clear_page.ensures)
    (rw c.last_page.ensures at c.clear_page-2.ensures)
