use Rattle.std.proofs.Common.{List, subst, sym}
use Rattle.std.specs.List.{AllByRecursion}
use Rattle.nfs_objects.specs.Values.{write_value}
use Rattle.nfs_objects.specs.declared.change.Write.{Write}
use Rattle.nfs_engine.proofs.WritesInShardLemmas.{over_values, under_values}
use Rattle.nfs_engine.specs.Settling.{ReplacesWritten}
use Rattle.nfs_engine.proofs.calls.Finished.replaces_written.Goals as goal

pub returns : goal.returns
returns c = rw (← c.self.view_is) (
  λ yes. over_values (ReplacesWritten c.args.shard.now) c.self.inside.writes.items
      (subst (λ (ws : List Write). AllByRecursion (λ w. ReplacesWritten c.args.shard.now (write_value w)) ws)
      c.deref.ensures.value (c.replace_written.ensures.0 yes)),
  λ all. c.replace_written.ensures.1
      (subst (λ (ws : List Write). AllByRecursion (λ w. ReplacesWritten c.args.shard.now (write_value w)) ws)
      (sym c.deref.ensures.value)
      (under_values (ReplacesWritten c.args.shard.now) c.self.inside.writes.items all)),
)
