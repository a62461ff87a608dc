use Rattle.std.proofs.Common.{Some, None, option_map, sym, ◌∙◌, ap}
use Rattle.nfs_tables.specs.Tables.{entries}
use Rattle.nfs_engine.proofs.HolderCountLemmas.{nobody_held}
use Rattle.nfs_engine.proofs.SlotStepLemmas.{excluder_of, other_here}
use Rattle.nfs_engine.specs.Shards.{shard_value, slot_value}
use Rattle.nfs_engine.proofs.shard.Shard.excluder.Goals as goal

pub returns-in-Some-get : goal.returns-in-Some-get
returns-in-Some-get c =
    rw (← c.self.view_is)
    (excluder_of
    (shard_value c.self.inside.index c.self.inside.numbers.slots (entries c.self.inside.others)
    c.self.inside.next_generation) c.args.address c.args.mode (Some (slot_value c.in-Some-get.slot.now))
    c.excluder-in-Some-get.result
    (other_here _ _ c.self.inside.numbers c.self.inside.others c.args.address c.self.invariant
    (rw (← c.self.view_is) at c.in_default.ensures) ∙ ap (option_map slot_value) (sym c.in-Some-get.ensures.value))
    c.excluder-in-Some-get.ensures)

pub returns-in-None : goal.returns-in-None
returns-in-None c =
    rw (← c.self.view_is)
    (excluder_of
    (shard_value c.self.inside.index c.self.inside.numbers.slots (entries c.self.inside.others)
    c.self.inside.next_generation) c.args.address c.args.mode None None
    (other_here _ _ c.self.inside.numbers c.self.inside.others c.args.address c.self.invariant
    (rw (← c.self.view_is) at c.in_default.ensures) ∙ ap (option_map slot_value) (sym c.in-None.ensures.value))
    (nobody_held c.args.mode))
