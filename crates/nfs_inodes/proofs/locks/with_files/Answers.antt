use Rattle.std.proofs.Common.{arith, refl, subst}
use Rattle.std.proofs.lemmas.List.{take_all}
use Rattle.nfs_inodes.proofs.LocksPlaceLemmas.{inserted-step}
use Rattle.nfs_inodes.specs.Locks.{AreInserted}
use Rattle.nfs_inodes.proofs.locks.with_files.Goals as goal

pub loop-file-init : goal.loop-file-init
loop-file-init c = refl

pub loop-file-preserved : goal.loop-file-preserved
loop-file-preserved c =
    inserted-step c.args.bucket c.args.files.now c.loop-file.file-index c.loop-file.bucket c.file-item.result
    c.in_ok-bucket.bucket c.loop-file-test.true c.file-item.is c.loop-file.invariant
    (rw c.in_ok-clone.ensures.cases at c.in_ok-bucket.ensures) c.files-files.ensures.bucket

pub returns : goal.returns
returns c =
    subst (λ fs. AreInserted c.args.bucket fs c.loop-file.bucket)
    (take_all c.loop-file.file-index c.args.files.now (omega (arith, c.loop-file-test.false))) c.loop-file.invariant
