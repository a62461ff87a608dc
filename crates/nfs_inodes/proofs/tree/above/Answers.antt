use Rattle.std.proofs.Common.{subst}
use Rattle.std.specs.Prelude.{option_copied}
use Rattle.nfs_inodes.proofs.ClimbLemmas.{parent-above, parent-wished}
use Rattle.nfs_inodes.specs.Known.{HasInode}
use Rattle.nfs_inodes.proofs.tree.above.Goals as goal

pub returns-clause-next : goal.returns-clause-next
returns-clause-next c =
    parent-above c.args.draft.now c.args.number c.in-Ok-Some.inode.now c.in_ok-directory.field-0.now
    (subst (λ o. HasInode c.args.draft.now c.args.number (option_copied o)) c.in-Ok-Some.field-0-is
    c.in-Ok-Some.ensures.inode) c.in_ok-directory.ensures c.missing.result c.missing.ensures

pub returns-clause-may : goal.returns-clause-may
returns-clause-may c =
    parent-wished c.args.draft.now c.args.number c.in-Ok-Some.inode.now c.in_ok-directory.field-0.now c.requires
    (subst (λ o. HasInode c.args.draft.now c.args.number (option_copied o)) c.in-Ok-Some.field-0-is
    c.in-Ok-Some.ensures.inode) c.in_ok-directory.ensures c.missing.result c.missing.ensures
