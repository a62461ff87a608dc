use Rattle.std.proofs.Common.{◌≡◌, length, map}
use Rattle.nfs_objects.specs.Values.{write_value}
use Rattle.nfs_engine.proofs.WritesInShardLemmas.{MakingIn}
use Rattle.nfs_engine.proofs.settling.make.Given as goal

abbrev pub invariant-loop-place : goal.invariant-loop-place
invariant-loop-place l = (length l.writes ≡ l.place-end) × MakingIn l.fn.shard l.shard l.fn.index
    (map write_value l.fn.writes) (map write_value l.writes) l.place
