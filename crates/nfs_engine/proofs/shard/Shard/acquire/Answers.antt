use Rattle.std.proofs.Common.{None, option_map, refl, sym, ap, ◌∙◌}
use Rattle.std.proofs.lemmas.Result.{err_from_is_err_and}
use Rattle.nfs_tables.specs.Tables.{TableValue, entries}
use Rattle.nfs_objects.specs.declared.address.Addr.{Addr}
use Rattle.nfs_engine.specs.Found.{found}
use Rattle.nfs_engine.specs.Shards.{slot_value, slots_seen}
use Rattle.nfs_engine.specs.declared.slot.Slot.{Slot}
use Rattle.nfs_engine.proofs.SlotStepLemmas.{absent_free, begins, begins_sound, number_acquires, other_acquires}
use Rattle.nfs_engine.proofs.SlotStepLemmas.{unslotted}
use Rattle.nfs_engine.proofs.AddressMapLemmas.{found-lookup}
use Rattle.nfs_engine.proofs.shard.Shard.acquire.Goals as goal

pub invariant_of-self : goal.invariant_of-self
invariant_of-self c =
    (number_acquires _ _ c.self.inside.numbers c.self.inside.others c.args.address c.self.invariant c.in-Some.key
    (rw (← c.self.view_is) at c.in-Some.ensures.0) c.index_mut.result.now c.index_mut.ensures.value c.acquire.new.self
    c.args.mode c.args.id c.acquire.result c.acquire.ensures).0

pub returns-in-Some : goal.returns-in-Some
returns-in-Some c =
    rw (← c.self.view_is)
    ((number_acquires _ _ c.self.inside.numbers c.self.inside.others c.args.address c.self.invariant c.in-Some.key
    (rw (← c.self.view_is) at c.in-Some.ensures.0) c.index_mut.result.now c.index_mut.ensures.value c.acquire.new.self
    c.args.mode c.args.id c.acquire.result c.acquire.ensures).1)

pub invariant_of-self-in-Some-get_mut : goal.invariant_of-self-in-Some-get_mut
invariant_of-self-in-Some-get_mut c =
    (other_acquires _ _ c.self.inside.numbers c.self.inside.others c.args.address c.self.invariant
    (rw (← c.self.view_is) at c.in_default.ensures) c.in-Some-get_mut.slot.now c.in-Some-get_mut.ensures.value
    c.acquire-in-Some-get_mut.new.self (c.get_mut.follows.lender c.acquire-in-Some-get_mut.new.self)
    (c.get_mut.follows.holds c.acquire-in-Some-get_mut.new.self) c.args.mode c.args.id c.acquire-in-Some-get_mut.result
    c.acquire-in-Some-get_mut.ensures).0

pub returns-in-Some-get_mut : goal.returns-in-Some-get_mut
returns-in-Some-get_mut c =
    rw (← c.self.view_is)
    ((other_acquires _ _ c.self.inside.numbers c.self.inside.others c.args.address c.self.invariant
    (rw (← c.self.view_is) at c.in_default.ensures) c.in-Some-get_mut.slot.now c.in-Some-get_mut.ensures.value
    c.acquire-in-Some-get_mut.new.self (c.get_mut.follows.lender c.acquire-in-Some-get_mut.new.self)
    (c.get_mut.follows.holds c.acquire-in-Some-get_mut.new.self) c.args.mode c.args.id c.acquire-in-Some-get_mut.result
    c.acquire-in-Some-get_mut.ensures).1)

pub invariant_of-self-2 : goal.invariant_of-self-2
invariant_of-self-2 c =
    let new : Slot = record { object = None; holders = c.add.new.self } in
    (begins_sound _ _ c.self.inside.numbers c.self.inside.others c.args.address c.self.invariant
    (rw (← c.self.view_is) at c.in_default.ensures) c.in_default-get_mut.ensures.value
    c.get_mut.follows.lender-at-none
    c.add_slot.new.others new c.args.mode c.args.id c.get_mut.follows.holds-at-none c.in_ok-add_slot.ensures.ok refl
    c.in_ok-add.ensures.ok)

pub returns : goal.returns
returns c =
    let new : Slot = record { object = None; holders = c.add.new.self } in
    rw (← c.self.view_is)
    (begins _ _ c.self.inside.numbers c.self.inside.others c.args.address c.self.invariant
    (rw (← c.self.view_is) at c.in_default.ensures) c.in_default-get_mut.ensures.value
    c.get_mut.follows.lender-at-none
    c.add_slot.new.others new c.args.mode c.args.id c.get_mut.follows.holds-at-none c.in_ok-add_slot.ensures.ok refl
    c.in_ok-add.ensures.ok)

-- no memory for a holder or for a slot, where nobody holds the address
pub returns-in_err-add : goal.returns-in_err-add
returns-in_err-add c =
    let p = err_from_is_err_and c.from_residual.result c.from_residual.ensures.1 in
    rw (p.1, ← c.self.view_is) (
      absent_free _ _ c.self.inside.numbers c.self.inside.others c.args.address c.self.invariant
          (rw (← c.self.view_is) at c.in_default.ensures) c.in_default-get_mut.ensures.value c.args.mode,
      unslotted _ _ c.self.inside.numbers c.self.inside.others c.args.address c.get_mut.follows.lender-at-none
          (ap (λ (m : TableValue Addr Slot). entries m) c.get_mut.follows.holds-at-none),
    )

pub returns-in_err-add_slot : goal.returns-in_err-add_slot
returns-in_err-add_slot c =
    let p = err_from_is_err_and c.from_residual-in_err-add_slot.result c.from_residual-in_err-add_slot.ensures.1 in
    rw (p.1, ← c.self.view_is) (
      absent_free _ _ c.self.inside.numbers c.self.inside.others c.args.address c.self.invariant
          (rw (← c.self.view_is) at c.in_default.ensures) c.in_default-get_mut.ensures.value c.args.mode,
      unslotted _ _ c.self.inside.numbers c.self.inside.others c.args.address c.add_slot.new.others
          (c.in_err-add_slot.ensures.err
          ∙ ap (λ (m : TableValue Addr Slot). entries m) c.get_mut.follows.holds-at-none),
    )

pub add_slot-requires : goal.add_slot-requires
add_slot-requires c =
    ap (λ (m : TableValue Addr Slot). found (slots_seen (entries m)) c.args.address) c.get_mut.follows.holds-at-none
    ∙ found-lookup slot_value c.args.address (entries c.self.inside.others)
    ∙ ap (option_map slot_value) (sym c.in_default-get_mut.ensures.value)
