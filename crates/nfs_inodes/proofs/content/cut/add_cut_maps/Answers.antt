use Rattle.std.proofs.Common.{◌/◌}
use Rattle.nfs_inodes.proofs.CutFileLemmas.{cut-result}
use Rattle.nfs_inodes.proofs.content.cut.add_cut_maps.Goals as goal

pub returns : goal.returns
returns c =
    let asks = c.add_maps.ensures in
    cut-result c.args.draft.now c.args.number c.args.map.now.pages (c.args.size / 4096 / 512)
    c.args.asking.now.asked.items c.add_maps.new.asking.asked.items c.add_maps.result c.cut_end.result c.cut_end.ensures
    (rw c.pages-pages.ensures at asks)
