use Rattle.std.proofs.Common.{subst}
use Rattle.std.specs.Prelude.{option_copied}
use Rattle.nfs_machine.specs.Shown.{touched}
use Rattle.nfs_machine.specs.Times.{time_of}
use Rattle.nfs_inodes.proofs.EditInodeLemmas.{edited-none, linked-turns}
use Rattle.nfs_inodes.specs.Known.{HasInode}
use Rattle.nfs_inodes.proofs.linking.set_links.Goals as goal

pub returns-in_default : goal.returns-in_default
returns-in_default c =
    edited-none (λ o. touched o (time_of c.args.draft.now.ctx.moment)) (λ l. c.args.links) c.args.draft.now
    c.args.number
    (subst (λ o. HasInode c.args.draft.now c.args.number (option_copied o)) c.in_default.is
    c.in_ok-inode.ensures.inode)

pub returns : goal.returns
returns c =
    linked-turns c.args.draft.now c.put.new.self c.args.number c.in-Some.inode.now _ c.args.links _
    (time_of c.args.draft.now.ctx.moment)
    (subst (λ o. HasInode c.args.draft.now c.args.number (option_copied o)) c.in-Some.is c.in_ok-inode.ensures.inode)
    c.in_ok-new.ensures.cases
    (rw (c.now.ensures, c.ctx.ensures) at c.touch-new.ensures) c.in_ok-put.ensures.ok
    c.in_ok-put.ensures.fits
