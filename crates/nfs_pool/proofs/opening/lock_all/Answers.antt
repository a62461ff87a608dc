use Rattle.std.proofs.Common.{◌<◌, arith, length, rules}
use Rattle.nfs_pool.proofs.OpeningMarksLemmas.{first-marked}
use Rattle.nfs_pool.proofs.opening.lock_all.Goals as goal

pub new-requires : goal.new-requires
new-requires g c =
    let within : 0 < length c.args.shards = omega arith in
    search (rules, first-marked c.args.first c.args.shards within c.requires)
