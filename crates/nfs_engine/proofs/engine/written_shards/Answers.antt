use Rattle.std.proofs.Common.{List, ◌++◌, ◌∷◌, [], map, take, set, true, sym, ◌∙◌, ap, subst, arith}
use Rattle.std.proofs.Common.{Option}
use Rattle.nfs_objects.specs.Values.{write_value}
use Rattle.nfs_objects.specs.declared.address.Addr.{Addr}
use Rattle.nfs_objects.specs.declared.change.Write.{Write}
use Rattle.nfs_objects.specs.declared.object.Object.{Object}
use Rattle.nfs_engine.proofs.WrittenShardsLemmas.{one_further, places_more}
use Rattle.nfs_engine.specs.Engine.{ArePlaces}
use Rattle.nfs_engine.proofs.engine.written_shards.Goals as goal

pub loop-write-preserved : goal.loop-write-preserved
loop-write-preserved c =
    subst (λ (ws : List (Addr × Option Object)). ArePlaces ws (set c.loop-write.written c.shard_index.result true))
    (sym (one_further c.args.writes.now c.loop-write.write-index c.write-item.result (omega arith) ∙
    ap (λ (w : Write). map write_value (take c.loop-write.write-index c.args.writes.now) ++ write_value w ∷ [])
    (sym c.write-item.is)))
    (places_more (map write_value (take c.loop-write.write-index c.args.writes.now)) (write_value c.write-item.result)
    c.loop-write.written c.shard_index.result c.loop-write.invariant c.shard_index.ensures.which (omega arith))
