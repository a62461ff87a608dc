use Rattle.std.proofs.Common.{subst}
use Rattle.std.specs.Prelude.{option_copied}
use Rattle.nfs_inodes.proofs.NextWishLemmas.{pages-told}
use Rattle.nfs_inodes.specs.Known.{HasInode}
use Rattle.nfs_inodes.proofs.wishes.pages_wish.Goals as goal

pub ask_pages-requires : goal.ask_pages-requires
ask_pages-requires c =
    pages-told c.args.draft.now c.args.directory c.in-Ok-Some.inode.now c.in_ok-pages.field-0.now c.requires
    (subst (λ o. HasInode c.args.draft.now c.args.directory (option_copied o)) c.in-Ok-Some.field-0-is
    c.in-Ok-Some.ensures.inode) c.in_ok-pages.ensures
