use Rattle.std.proofs.Common.{List, subst, sym}
use Rattle.std.specs.List.{AllByRecursion}
use Rattle.nfs_objects.specs.Values.{write_value}
use Rattle.nfs_objects.specs.declared.change.Write.{Write}
use Rattle.nfs_engine.proofs.WritesInShardLemmas.{over_values, under_values}
use Rattle.nfs_engine.specs.Settling.{HoldsWritten}
use Rattle.nfs_engine.proofs.calls.Finished.holds_written.Goals as goal

pub returns : goal.returns
returns c = rw (← c.self.view_is) (
  λ yes. over_values (HoldsWritten c.args.shard.now c.self.inside.id) c.self.inside.writes.items
      (subst (λ (ws : List Write). AllByRecursion (λ w. HoldsWritten c.args.shard.now c.self.inside.id (write_value w))
      ws) c.deref.ensures.value (c.hold_written.ensures.0 yes)),
  λ all. c.hold_written.ensures.1
      (subst (λ (ws : List Write). AllByRecursion (λ w. HoldsWritten c.args.shard.now c.self.inside.id (write_value w))
      ws) (sym c.deref.ensures.value)
      (under_values (HoldsWritten c.args.shard.now c.self.inside.id) c.self.inside.writes.items all)),
)
