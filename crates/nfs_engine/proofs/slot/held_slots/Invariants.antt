use Rattle.std.proofs.Common.{◌≡◌, ◌+◌, ◌-◌, ◌^◌, ◌≤◌, min, count_by}
use Rattle.nfs_engine.specs.Locked.{is_held}
use Rattle.nfs_engine.specs.Shards.{slot_value}
use Rattle.nfs_engine.proofs.slot.held_slots.Given as goal

-- what is counted so far, and what is left
abbrev pub invariant-loop-slot : goal.invariant-loop-slot
invariant-loop-slot l =
    (goal.iterator-loop-slot).can_next l.slot-iterator × (goal.iterator-loop-slot).is_finite l.slot-iterator ×
    (l.held ≤ 2 ^ 64 - 1) ×
    (min (l.held + count_by (λ e. is_held (slot_value e.1)) l.slot-iterator) (2 ^ 64 - 1)
    ≡ min (count_by (λ e. is_held (slot_value e.1)) l.slots.entries) (2 ^ 64 - 1))
