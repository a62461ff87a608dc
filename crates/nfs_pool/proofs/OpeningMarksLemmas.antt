-- What a pool opens with.
use Rattle.std.proofs.Common.{◌≡◌, ◌<◌, List, get_or, length, subst, sym}
use Rattle.std.proofs.lemmas.List.{get_or_read}
use Rattle.nfs_engine.specs.Engine.{no_shard, shard_among}
use Rattle.nfs_engine.specs.Shards.{ShardValue}
use Rattle.nfs_stamps.specs.Marking.{MarksValue}
use Rattle.nfs_pool.specs.Marked.{AreMarksIn}

-- marks of the first shard are those of the one that is taken out as the first
pub first-marked : (marks : MarksValue) (shards : List ShardValue) → 0 < length shards
    → AreMarksIn marks (shard_among shards 0) → (shard : ShardValue) → shard ≡ get_or shards 0 shard
    → AreMarksIn marks shard
first-marked marks shards within are shard is =
    subst (λ (s : ShardValue). AreMarksIn marks s) (sym (get_or_read shards 0 shard within is no_shard)) are
