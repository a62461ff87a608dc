use Rattle.std.proofs.Common.{Bool, subst}
use Rattle.std.specs.List.{IsDistinct}
use Rattle.std.specs.Map.{keys_of}
use Rattle.nfs_tables.specs.Tables.{entries}
use Rattle.nfs_objects.proofs.ViewLookupLemmas.{tested}
use Rattle.nfs_objects.specs.declared.address.Addr.{Addr}
use Rattle.nfs_engine.proofs.ShardSlotListLemmas.{held-both}
use Rattle.nfs_engine.proofs.slot.held_others.Goals as goal

-- the table's test of two addresses is that of the definitions
pub returns-clause-once : goal.returns-clause-once
returns-clause-once c = subst (λ (same : Addr → Addr → Bool). IsDistinct same (keys_of (entries c.args.others.now)))
    (λ i a b. tested a b i) c.parts.ensures.once

pub returns-clause-value : goal.returns-clause-value
returns-clause-value c =
    held-both c.parts.result.0.now.entries c.parts.result.1.now.entries (entries c.args.others.now)
    c.held_slots.result c.held_slots-2.result c.saturating_add.result c.parts.ensures.entries
    c.held_slots.ensures c.held_slots-2.ensures c.saturating_add.ensures
