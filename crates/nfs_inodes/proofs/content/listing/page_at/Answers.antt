use Rattle.std.specs.Prelude.{option_copied}
use Rattle.nfs_objects.specs.declared.address.Addr.TheVariants as addresses
use Rattle.nfs_inodes.proofs.ReaderHaltLemmas.{there-stops}
use Rattle.nfs_inodes.proofs.PageAsksLemmas.{page-lives}
use Rattle.nfs_inodes.specs.Entered.{ShowsPage}
use Rattle.nfs_inodes.proofs.content.listing.page_at.Goals as goal

pub ask_pages-requires : goal.ask_pages-requires
ask_pages-requires c = page-lives c.args.draft.now c.args.number c.args.map.now c.requires.lives

pub returns : goal.returns
returns c =
    there-stops c.args.draft.now (addresses.Page c.args.number c.args.page)
    (λ entries. ShowsPage c.args.draft.now c.args.number c.args.page (option_copied entries)) c.page.result
    (page-lives c.args.draft.now c.args.number c.args.map.now c.requires.lives c.args.page c.requires.listed)
    c.page.ensures
