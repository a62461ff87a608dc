use Rattle.std.proofs.Common.{true, Some, None, subst, refl}
use Rattle.std.specs.Prelude.{option_copied}
use Rattle.nfs_inodes.proofs.NameLeadsLemmas.{empty-there}
use Rattle.nfs_inodes.specs.Known.{HasInode}
use Rattle.nfs_inodes.proofs.content.entries.is_empty.Goals as goal

pub returns-in-Some : goal.returns-in-Some
returns-in-Some c =
    empty-there c.args.draft.now c.args.directory.now.known.number (Some c.in-Some.inode.now) _
    (subst (λ o. HasInode c.args.draft.now c.args.directory.now.known.number (option_copied o)) c.in-Some.is
    c.in_ok-inode.ensures.inode) c.is_empty_in.ensures

pub returns-in-None : goal.returns-in-None
returns-in-None c =
    empty-there c.args.draft.now c.args.directory.now.known.number None true
    (subst (λ o. HasInode c.args.draft.now c.args.directory.now.known.number (option_copied o)) c.in-None.is
    c.in_ok-inode.ensures.inode) refl
