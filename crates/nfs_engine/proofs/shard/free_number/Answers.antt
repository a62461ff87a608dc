use Rattle.std.proofs.Common.{◌∙◌, ap, sym}
use Rattle.slab.specs.Slab.{Slab}
use Rattle.nfs_tables.specs.Tables.{entries}
use Rattle.nfs_objects.specs.declared.address.Addr.TheVariants.{Inode}
use Rattle.nfs_engine.specs.declared.slot.Slot.{Slot as OneSlot}
use Rattle.nfs_engine.specs.Shards.{number_at}
use Rattle.nfs_engine.proofs.ReserveLemmas.{moved, moved_from, moved_twice, not_found, unmoved}
use Rattle.nfs_engine.proofs.shard.free_number.Goals as goal

pub returns-in_default-remove-clause-free : goal.returns-in_default-remove-clause-free
returns-in_default-remove-clause-free c = record {
  room = c.in_ok-reserve.ensures.room;
  key = c.in-Some.ensures ∙ ap (number_at c.args.index) c.vacant_key.ensures.value;
  free = not_found c.keys.others c.remove.new.self c.in-Some.number c.remove.ensures.changes;
}

pub returns-in_default-remove-clause-same : goal.returns-in_default-remove-clause-same
returns-in_default-remove-clause-same c =
    moved_twice _ _ _ c.keys.invariant
    (moved_from c.args.index c.keys.numbers c.reserve.new.self (entries c.keys.others) _
    (ap (λ (s : Slab OneSlot). s.slots) c.reserve.ensures.rest_kept)
    (unmoved c.args.index c.reserve.new.self.slots c.keys.others c.remove.new.self (Inode c.in-Some.number)
    (sym c.in_default-remove.ensures.value) c.remove.ensures.changes))

pub keys-preserved : goal.keys-preserved
keys-preserved c =
    moved_twice _ _ _ c.keys.invariant
    (moved_from c.args.index c.keys.numbers c.reserve.new.self (entries c.keys.others) _
    (ap (λ (s : Slab OneSlot). s.slots) c.reserve.ensures.rest_kept)
    (moved c.args.index c.requires c.reserve.new.self c.insert_reserved.new.self c.keys.others c.remove.new.self
    c.insert_reserved.result c.in-Some.number c.in-Some-remove.slot c.insert_reserved.ensures.was_vacant
    c.insert_reserved.ensures.updates
    (c.in-Some.ensures ∙ ap (number_at c.args.index)
    (c.vacant_key.ensures.value ∙ sym c.insert_reserved.ensures.key))
    c.in-Some-remove.ensures.value c.remove.ensures.changes))
