use Rattle.std.proofs.Common.{subst}
use Rattle.std.specs.Prelude.{option_copied}
use Rattle.nfs_machine.specs.Times.{time_of}
use Rattle.nfs_inodes.proofs.PutObjectLemmas.{unlinked-none, unlinked-same, unlinked-turns}
use Rattle.nfs_inodes.specs.Known.{HasInode}
use Rattle.nfs_inodes.proofs.makers.unlink.Goals as goal

pub returns-in_default : goal.returns-in_default
returns-in_default c = unlinked-none c.args.draft.now c.args.number (time_of c.args.draft.now.ctx.moment)
    (subst (λ o. HasInode c.args.draft.now c.args.number (option_copied o)) c.in_default.is c.in_ok-inode.ensures.inode)

pub returns : goal.returns
returns c =
    unlinked-turns c.args.draft.now c.args.number c.put.new.self c.in-Some.inode.now _
    (time_of c.args.draft.now.ctx.moment)
    (subst (λ o. HasInode c.args.draft.now c.args.number (option_copied o)) c.in-Some.is c.in_ok-inode.ensures.inode)
    (unlinked-same _ c.in-Some.inode.now _ _ (time_of c.args.draft.now.ctx.moment) c.in_ok-new.ensures.cases
    c.saturating_sub.ensures (rw (c.now.ensures, c.ctx.ensures) at c.touch-new.ensures)) c.in_ok-put.ensures.ok
    c.in_ok-put.ensures.fits
