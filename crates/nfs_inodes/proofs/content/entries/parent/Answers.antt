use Rattle.std.proofs.Common.{Some, None, subst, sym, ◌∙◌}
use Rattle.std.specs.Prelude.{option_copied}
use Rattle.nfs_inodes.proofs.StandsLemmas.{parent-there}
use Rattle.nfs_inodes.specs.Known.{HasInode}
use Rattle.nfs_inodes.proofs.content.entries.parent.Goals as goal

pub returns-in-Some-clause-parent : goal.returns-in-Some-clause-parent
returns-in-Some-clause-parent c = λ s k w.
    parent-there c.args.draft.now c.args.number (Some c.in-Some.inode.now)
    (subst (λ o. HasInode c.args.draft.now c.args.number (option_copied o)) c.in-Some.is c.in_ok-inode.ensures.inode) s
    k w.fits w.stands
    ∙ sym c.parent_of.ensures

pub returns-in-None-clause-parent : goal.returns-in-None-clause-parent
returns-in-None-clause-parent c = λ s k w.
    parent-there c.args.draft.now c.args.number None
    (subst (λ o. HasInode c.args.draft.now c.args.number (option_copied o)) c.in-None.is c.in_ok-inode.ensures.inode) s
    k w.fits w.stands
