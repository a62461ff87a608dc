use Rattle.std.proofs.Common.{◌<◌, ◌∙◌, arith, length, rules, subst, sym}
use Rattle.std.proofs.lemmas.List.{get_or_read}
use Rattle.nfs_engine.specs.Engine.{no_shard}
use Rattle.nfs_engine.specs.Shards.{ShardValue}
use Rattle.nfs_pool.specs.Marked.{AreMarksIn}
use Rattle.nfs_pool.proofs.CountsLemmas.{counts-none}
use Rattle.nfs_pool.proofs.pool.Pool.new.Goals as goal

pub lock_all-requires : goal.lock_all-requires
lock_all-requires g c =
    let shards = c.into_parts-book.result.1 in
    let within : 0 < length shards = omega arith in (
      search rules,
      subst (λ (s : ShardValue). AreMarksIn c.mark_opening-marks.result.1 s)
          (sym c.index-shards-0.is
          ∙ get_or_read shards 0 c.index-shards-0.result within c.index-shards-0.is no_shard)
          c.mark_opening-marks.ensures.shard,
    )

pub new_seats-requires-clause-none : goal.new_seats-requires-clause-none
new_seats-requires-clause-none g c = counts-none c.empty-nothing.new.self.amount (search rules)
