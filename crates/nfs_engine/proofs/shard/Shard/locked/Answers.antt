use Rattle.nfs_tables.specs.Tables.{entries}
use Rattle.nfs_engine.proofs.ShardSlotListLemmas.{locked}
use Rattle.nfs_engine.proofs.shard.Shard.locked.Goals as goal

pub returns : goal.returns
returns c =
    rw (← c.self.view_is)
    (locked c.self.inside.index c.self.invariant.index c.self.inside.next_generation c.self.inside.numbers
    (entries c.self.inside.others) c.self.invariant.apart c.held_others.ensures.once c.held_numbers.result
    c.held_others.result c.saturating_add.result c.held_numbers.ensures c.held_others.ensures.value
    c.saturating_add.ensures)
