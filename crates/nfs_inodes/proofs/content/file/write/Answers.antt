use Rattle.std.proofs.Common.{◌∙◌}
use Rattle.std.proofs.lemmas.Result.{err_from_is_err_and}
use Rattle.nfs_inodes.proofs.PutObjectLemmas.{object-stops}
use Rattle.nfs_inodes.proofs.RemainsGoLemmas.{written-after}
use Rattle.nfs_inodes.proofs.UsageChangeLemmas.{stands-first}
use Rattle.nfs_inodes.proofs.WriteAsksLemmas.{written-counts}
use Rattle.nfs_inodes.proofs.content.file.write.Goals as goal

pub clear_range-requires-clause-stands : goal.clear_range-requires-clause-stands
clear_range-requires-clause-stands c = stands-first c.args.draft.now c.requires.none

pub returns-in_err-clear_range : goal.returns-in_err-clear_range
returns-in_err-clear_range c =
    let p = err_from_is_err_and c.from_residual.result c.from_residual.ensures.1 in
    rw (p.1, p.2) (written-counts c.args.draft.now c.args.file.now.known.number c.args.offset _
    (object-stops c.args.draft.now c.args.file.now.known.number _ c.in_err-clear_range.ensures))

pub write_over-requires-clause-alone : goal.write_over-requires-clause-alone
write_over-requires-clause-alone c = c.in_ok-clear_range.ensures.turns.modes ∙ c.requires.alone

pub write_over-requires-clause-shown : goal.write_over-requires-clause-shown
write_over-requires-clause-shown c =
    c.in_ok-clear_range.ensures.kinds c.args.file.now.known.number ∙ c.requires.shown

pub returns : goal.returns
returns c =
    written-after c.args.draft.now c.clear_range.new.draft c.write_over.new.draft c.args.file.now.known.number _ _
    c.args.offset c.args.bytes.now c.write_over.result c.in_ok-clear_range.ensures c.write_over.ensures
