use Rattle.std.proofs.Common.{[], inr, sym}
use Rattle.std.proofs.lemmas.Result.{err_from_is_err_and}
use Rattle.nfs_inodes.proofs.ClearDirectoryLemmas.{frees-other, frees-own}
use Rattle.nfs_inodes.proofs.AsksAfterWritesLemmas.{lives-stops}
use Rattle.nfs_inodes.proofs.content.clearing.clear_at.Goals as goal
use Rattle.nfs_inodes.proofs.content.clearing.clear_at.Goals.{then-is_entries_of+in_ok-free_at, else-is_entries_of}

pub returns-in_err-find : goal.returns-in_err-find
returns-in_err-find c =
    let p = err_from_is_err_and c.from_residual.result c.from_residual.ensures.1 in
    rw (p.1, p.2) (lives-stops c.args.draft.now [] c.args.address _ (inr c.requires.lives) c.in_err-find.ensures)

pub returns : goal.returns
returns c = elim c.if-is_entries_of.branch [
  | then-is_entries_of+in_ok-free_at w ↦
      rw w.draft-is (frees-own c.args.draft.now w.free_at.new.self c.args.number c.args.address
      (sym w.if-is_entries_of.ensures) w.in_ok-free_at.ensures.ok)
  | else-is_entries_of w ↦
      rw w.draft-is (frees-other c.args.draft.now c.args.number c.args.address (sym w.if-is_entries_of.ensures))
]
