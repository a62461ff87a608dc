use Rattle.std.proofs.Common.{Option, Some, None, ap, sym}
use Rattle.std.proofs.lemmas.Result.{err_from_is_err_and}
use Rattle.nfs_objects.specs.Knows.{Turns}
use Rattle.nfs_objects.specs.Stands.{map_in}
use Rattle.nfs_objects.specs.declared.object.Inode.{Inode}
use Rattle.nfs_inodes.proofs.BucketPutLemmas.{forgotten, no-file-none}
use Rattle.nfs_inodes.proofs.FileWithLocksLemmas.{forget-result, inode-lacked, none-where}
use Rattle.nfs_inodes.proofs.LocksPlaceLemmas.{nothing-changed}
use Rattle.nfs_inodes.specs.Locks.{HasNone, locks_freed}
use Rattle.nfs_inodes.proofs.locks.forget_locks.Goals as goal
use Rattle.nfs_inodes.proofs.locks.forget_locks.Goals.{Else-is_file}

-- what is no file has nothing
none : (c : Else-is_file) → HasNone c.args.draft.now c.args.number
none c =
    no-file-none c.args.draft.now c.args.number _ c.in_ok-find.ensures
    (none-where _ (ap (λ (o : Option Inode). elim o [ None ↦ None | Some i ↦ map_in i.content ]) (sym c.living.ensures))
    (sym c.if-is_file.ensures))

pub returns-in_err-find-clause-turns : goal.returns-in_err-find-clause-turns
returns-in_err-find-clause-turns c =
    let p = err_from_is_err_and c.from_residual.result c.from_residual.ensures.1 in
    rw (p.1, p.2) (inode-lacked c.args.draft.now c.args.number _ c.in_err-find.ensures)

pub returns-then-is_file-clause-turns : goal.returns-then-is_file-clause-turns
returns-then-is_file-clause-turns c =
    forget-result c.args.draft.now c.args.number
    (λ _. Turns c.args.draft.now c.forget.new.draft (locks_freed c.args.number)) c.forget.result c.forget.ensures.turns

pub returns-else-is_file-clause-turns : goal.returns-else-is_file-clause-turns
returns-else-is_file-clause-turns c = forgotten c.args.draft.now c.args.number (none c)

pub returns-else-is_file-clause-none : goal.returns-else-is_file-clause-none
returns-else-is_file-clause-none c = none c

pub returns-else-is_file-clause-keeps : goal.returns-else-is_file-clause-keeps
returns-else-is_file-clause-keeps c = nothing-changed c.args.draft.now
