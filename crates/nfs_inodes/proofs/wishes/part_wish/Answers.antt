use Rattle.std.proofs.Common.{subst}
use Rattle.std.specs.Prelude.{option_copied}
use Rattle.nfs_inodes.proofs.NextWishLemmas.{part-wished}
use Rattle.nfs_inodes.specs.Known.{HasInode}
use Rattle.nfs_inodes.proofs.wishes.part_wish.Goals as goal

pub returns : goal.returns
returns c =
    part-wished c.args.draft.now c.args.directory c.in-Ok-Some.inode.now c.in_ok-directory.field-0.now c.requires
    (subst (λ o. HasInode c.args.draft.now c.args.directory (option_copied o)) c.in-Ok-Some.field-0-is
    c.in-Ok-Some.ensures.inode) c.in_ok-directory.ensures c.args.name.now c.in_ok-place.place
    c.in_ok-place.ensures c.missing.result c.missing.ensures
