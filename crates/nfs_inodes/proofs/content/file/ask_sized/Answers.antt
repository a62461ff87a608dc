use Rattle.std.proofs.Common.{[], ap, subst}
use Rattle.nfs_objects.specs.Stands.{map_in}
use Rattle.nfs_objects.specs.Sums.{is_same_usage}
use Rattle.nfs_inodes.proofs.CutAsksLemmas.{sized-asking}
use Rattle.nfs_inodes.proofs.EntryAsksLemmas.{one-counted}
use Rattle.nfs_inodes.proofs.ReadBlocksLemmas.{has-pages}
use Rattle.nfs_inodes.specs.Asking.{AsksFor}
use Rattle.nfs_inodes.specs.Cuts.{IsPageIn}
use Rattle.nfs_inodes.specs.Stops.{counted_at}
use Rattle.nfs_inodes.proofs.content.file.ask_sized.Goals as goal

pub returns : goal.returns
returns c =
    let d = c.args.draft.now in
    let n = c.args.number in
    let mid = c.add_cut_maps.new.asking.asked.items in
    let asked = c.ask_counted.new.asking.asked.items in
    c.ask.ensures.stops d (counted_at d n)
    (sized-asking d n c.args.kept.map.now.pages mid asked
    (has-pages d n c.args.kept.map.now (record {
      inode = c.args.kept.inode.now;
      stands = c.requires.kept.inode;
      content = ap map_in c.requires.kept.content;
    })) c.requires.stands
    (subst (λ l. AsksFor d (IsPageIn n c.args.kept.map.now.pages 0 512) (λ a. ⊥) l mid) c.new-asking.ensures
    c.in_ok-add_cut_maps.ensures)
    (one-counted d n c.args.kept.inode.now c.share_of-share.result
    (is_same_usage c.share_of-share.result.usage c.of_one.result) mid asked
    c.requires.kept.inode c.share_of-share.ensures c.in_ok-ask_counted.ensures))
