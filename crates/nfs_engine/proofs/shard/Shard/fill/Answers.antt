use Rattle.std.proofs.Common.{refl}
use Rattle.nfs_engine.specs.declared.slot.Slot.{Slot}
use Rattle.nfs_engine.proofs.SlotStepLemmas.{absent_held, number_fills, other_fills}
use Rattle.nfs_engine.proofs.shard.Shard.fill.Goals as goal

pub invariant_of-self : goal.invariant_of-self
invariant_of-self c =
    let new : Slot = record { object = c.args.object; holders = c.index_mut.result.now.holders } in
    (number_fills _ _ c.self.inside.numbers c.self.inside.others c.args.address c.self.invariant c.in-Some.key
    (rw (← c.self.view_is) at c.in-Some.ensures.0) c.index_mut.result.now c.index_mut.ensures.value new refl
    (rw (← c.self.view_is) at c.requires)).0

pub returns-in-Some : goal.returns-in-Some
returns-in-Some c =
    let new : Slot = record { object = c.args.object; holders = c.index_mut.result.now.holders } in
    rw (← c.self.view_is)
    ((number_fills _ _ c.self.inside.numbers c.self.inside.others c.args.address c.self.invariant c.in-Some.key
    (rw (← c.self.view_is) at c.in-Some.ensures.0) c.index_mut.result.now c.index_mut.ensures.value new refl
    (rw (← c.self.view_is) at c.requires)).1)

pub returns-in_default-get_mut : goal.returns-in_default-get_mut
returns-in_default-get_mut c =
    absurd (absent_held _ _ c.self.inside.numbers c.self.inside.others c.args.address c.self.invariant
    (rw (← c.self.view_is) at c.in_default.ensures) c.in_default-get_mut.ensures.value
    (rw (← c.self.view_is) at c.requires))

pub invariant_of-self-2 : goal.invariant_of-self-2
invariant_of-self-2 c =
    let new : Slot = record { object = c.args.object; holders = c.in-Some-get_mut.slot.now.holders } in
    (other_fills _ _ c.self.inside.numbers c.self.inside.others c.args.address c.self.invariant
    (rw (← c.self.view_is) at c.in_default.ensures) c.in-Some-get_mut.slot.now c.in-Some-get_mut.ensures.value new
    (c.get_mut.follows.lender new) (c.get_mut.follows.holds new) refl (rw (← c.self.view_is) at c.requires)).0

pub returns : goal.returns
returns c =
    let new : Slot = record { object = c.args.object; holders = c.in-Some-get_mut.slot.now.holders } in
    rw (← c.self.view_is)
    ((other_fills _ _ c.self.inside.numbers c.self.inside.others c.args.address c.self.invariant
    (rw (← c.self.view_is) at c.in_default.ensures) c.in-Some-get_mut.slot.now c.in-Some-get_mut.ensures.value new
    (c.get_mut.follows.lender new) (c.get_mut.follows.holds new) refl (rw (← c.self.view_is) at c.requires)).1)
