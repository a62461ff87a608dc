use Rattle.std.proofs.Common.{subst}
use Rattle.std.specs.Prelude.{option_copied}
use Rattle.nfs_machine.specs.Times.{time_of}
use Rattle.nfs_inodes.proofs.RelinkLemmas.{none-rehomed, rehomed-turns}
use Rattle.nfs_inodes.specs.Known.{HasInode}
use Rattle.nfs_inodes.proofs.content.naming.rehome.Goals as goal

pub returns-in_default : goal.returns-in_default
returns-in_default c =
    none-rehomed c.args.draft.now c.args.number (time_of c.args.draft.now.ctx.moment) c.args.directory
    (subst (λ o. HasInode c.args.draft.now c.args.number (option_copied o)) c.in_default.is
    c.in_ok-inode.ensures.inode)

pub returns : goal.returns
returns c =
    rehomed-turns c.args.draft.now c.args.number (time_of c.args.draft.now.ctx.moment) c.args.directory c.put.new.self
    c.in-Some.inode.now _ _ _
    (subst (λ o. HasInode c.args.draft.now c.args.number (option_copied o)) c.in-Some.is c.in_ok-inode.ensures.inode)
    c.in_ok-new.ensures.cases (rw (c.now.ensures, c.ctx.ensures) at c.touch-new.ensures) c.below.ensures.content
    c.below.ensures.map c.below.ensures.entries c.below.ensures.parent c.in_ok-put.ensures.ok c.in_ok-put.ensures.fits
