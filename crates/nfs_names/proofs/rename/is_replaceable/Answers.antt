use Rattle.std.proofs.Common.{sym}
use Rattle.nfs_names.proofs.RenameLemmas.{over-directory, over-empty, over-plain}
use Rattle.nfs_names.proofs.rename.is_replaceable.Goals as goal

pub returns-then-not-is_directory : goal.returns-then-not-is_directory
returns-then-not-is_directory c =
    rw c.in-Some.is
    (over-plain c.args.draft.now c.args.renaming.now.moved c.requires.moved c.in-Some.replaced
    (rw c.in-Some.is at c.requires.replaced) (sym c.if-not-is_directory.ensures) _
    (sym c.is_directory-then-not-is_directory.ensures))

pub returns-in-Ok : goal.returns-in-Ok
returns-in-Ok c =
    rw c.in-Some.is
    (over-empty c.args.draft.now c.args.renaming.now.moved c.requires.moved c.in-Some.replaced
    (rw c.in-Some.is at c.requires.replaced) (sym c.if-not-is_directory.ensures) c.in-Ok.directory
    c.in-Ok.ensures.known c.is_empty.result c.is_empty.ensures c.requires.none)

pub returns-in-Err : goal.returns-in-Err
returns-in-Err c =
    rw c.in-Some.is
    (over-directory c.args.draft.now c.args.renaming.now.moved c.requires.moved c.in-Some.replaced
    (rw c.in-Some.is at c.requires.replaced) (sym c.if-not-is_directory.ensures) c.directory.result
    c.directory.ensures.checks c.in-Err.field-0 c.in-Err.is)
