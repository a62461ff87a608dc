use Rattle.std.proofs.Common.{subst}
use Rattle.std.specs.Prelude.{option_copied}
use Rattle.nfs_objects.specs.Sums.{is_same_usage}
use Rattle.nfs_inodes.proofs.EntryAsksLemmas.{none-counted, one-counted}
use Rattle.nfs_inodes.specs.Known.{HasInode}
use Rattle.nfs_inodes.proofs.usage.ask_uncounted.Goals as goal

pub returns-in_ok-ask_counted-in-Some : goal.returns-in_ok-ask_counted-in-Some
returns-in_ok-ask_counted-in-Some c =
    one-counted c.args.draft.now c.args.number c.in-Some.inode.now c.share_of.result
    (is_same_usage c.share_of.result.usage c.none.result) c.args.asking.now.asked.items
    c.ask_counted.new.asking.asked.items
    (subst (λ o. HasInode c.args.draft.now c.args.number (option_copied o)) c.in-Some.is c.in_ok-inode.ensures.inode)
    c.share_of.ensures c.in_ok-ask_counted-in-Some.ensures

pub returns-in-None : goal.returns-in-None
returns-in-None c = none-counted c.args.draft.now c.args.number c.args.asking.now.asked.items
