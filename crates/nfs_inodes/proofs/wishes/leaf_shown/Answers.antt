use Rattle.std.proofs.Common.{subst}
use Rattle.std.specs.Prelude.{option_copied}
use Rattle.nfs_inodes.proofs.NextWishLemmas.{leaf-led, leaf-there, shown-lives}
use Rattle.nfs_inodes.specs.Known.{HasInode}
use Rattle.nfs_inodes.proofs.wishes.leaf_shown.Goals as goal

pub leaf_of-requires : goal.leaf_of-requires
leaf_of-requires c =
    shown-lives c.args.draft.now c.args.directory c.in-Ok-Some.inode.now c.in_ok-header.header.now c.requires
    (subst (λ o. HasInode c.args.draft.now c.args.directory (option_copied o)) c.in-Ok-Some.field-0-is
    c.in-Ok-Some.ensures.inode) c.in_ok-header.ensures

pub returns-clause-lives : goal.returns-clause-lives
returns-clause-lives c =
    leaf-there c.args.draft.now c.args.directory c.in-Ok-Some.inode.now c.in_ok-header.header.now c.requires
    (subst (λ o. HasInode c.args.draft.now c.args.directory (option_copied o)) c.in-Ok-Some.field-0-is
    c.in-Ok-Some.ensures.inode) c.in_ok-header.ensures c.args.name.now c.in-Ok.leaf c.in-Ok.ensures

pub returns-clause-led : goal.returns-clause-led
returns-clause-led c =
    leaf-led c.args.draft.now c.args.directory c.in-Ok-Some.inode.now c.in_ok-header.header.now c.requires
    (subst (λ o. HasInode c.args.draft.now c.args.directory (option_copied o)) c.in-Ok-Some.field-0-is
    c.in-Ok-Some.ensures.inode) c.in_ok-header.ensures c.args.name.now c.in-Ok.leaf c.in-Ok.ensures
