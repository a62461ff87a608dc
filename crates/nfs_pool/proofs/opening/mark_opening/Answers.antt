use Rattle.nfs_objects.specs.declared.address.Addr.TheVariants.{Exports, Mounts}
use Rattle.nfs_engine.specs.Book.{store_in}
use Rattle.nfs_engine.specs.Shards.{slot_at}
use Rattle.nfs_pool.proofs.MarkedWritesLemmas.{opening-marks, puts-same}
use Rattle.nfs_pool.proofs.opening.mark_opening.Goals as goal

pub returns-clause-book : goal.returns-clause-book
returns-clause-book g c =
    opening-marks c.opening_marks.result c.stamp_standing-exports.result c.stamp_standing-mounts.result
    (store_in c.args.book.now).at c.opening_marks.ensures c.stamp_standing-exports.ensures
    c.stamp_standing-mounts.ensures

pub returns-clause-shard : goal.returns-clause-shard
returns-clause-shard g c =
    let at = (store_in c.args.book.now).at in
    opening-marks c.opening_marks-2.result c.stamp_standing-exports.result c.stamp_standing-mounts.result
    (λ a. (slot_at c.args.first.now a).object) c.opening_marks-2.ensures
    (puts-same c.stamp_standing-exports.result Exports (at Exports) _ c.stamp_standing-exports.ensures c.requires.0)
    (puts-same c.stamp_standing-mounts.result Mounts (at Mounts) _ c.stamp_standing-mounts.ensures c.requires.1)
