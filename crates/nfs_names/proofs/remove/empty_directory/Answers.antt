use Rattle.nfs_names.proofs.RemoveLemmas.{directory-judged, no-directory-judged}
use Rattle.nfs_names.proofs.remove.empty_directory.Goals as goal

pub returns-in-Err : goal.returns-in-Err
returns-in-Err c =
    no-directory-judged c.args.draft.now c.args.object.now c.requires.known c.in-Err.status
    (rw c.in-Err.is at c.directory.ensures.checks)

pub returns-then-empty : goal.returns-then-empty
returns-then-empty c =
    directory-judged c.args.draft.now c.args.object.now c.requires.known c.in-Ok.directory
    (rw c.in-Ok.is at c.directory.ensures.checks) _
    (rw (c.in-Ok.ensures.known, c.if-empty.true) at c.in_ok-empty.ensures)

pub returns-else-empty : goal.returns-else-empty
returns-else-empty c =
    directory-judged c.args.draft.now c.args.object.now c.requires.known c.in-Ok.directory
    (rw c.in-Ok.is at c.directory.ensures.checks) _
    (rw (c.in-Ok.ensures.known, c.if-empty.false) at c.in_ok-empty.ensures)
