use Rattle.std.proofs.Common.{ap, subst}
use Rattle.std.specs.Prelude.{option_copied}
use Rattle.nfs_objects.specs.Stands.{map_in}
use Rattle.nfs_inodes.proofs.ReadBlocksLemmas.{has-pages}
use Rattle.nfs_inodes.proofs.UsageChangeLemmas.{stands-first}
use Rattle.nfs_inodes.specs.Known.{HasInode}
use Rattle.nfs_inodes.proofs.wishes.data_wish.Goals as goal

pub ask_cut-requires-clause-pages : goal.ask_cut-requires-clause-pages
ask_cut-requires-clause-pages c =
    rw c.pages.ensures (has-pages c.args.draft.now c.args.number c.in-Regular.map (record {
      inode = c.in-Ok-Some.inode.now;
      stands = subst (λ o. HasInode c.args.draft.now c.args.number (option_copied o)) c.in-Ok-Some.field-0-is
          c.in-Ok-Some.ensures.inode;
      content = ap map_in c.in-Regular.is;
    }))

pub ask_cut-requires-clause-stands : goal.ask_cut-requires-clause-stands
ask_cut-requires-clause-stands c = stands-first c.args.draft.now c.requires
