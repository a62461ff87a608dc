use Rattle.std.proofs.Common.{◌≡◌, ◌∙◌, ◌+◌, ◌<◌, ◌≤◌, Bool, None, Some, arith, cond, option_map, subst, sym}
use Rattle.std.specs.Arc.{arc_value}
use Rattle.nfs_tables.specs.Tables as tables
use Rattle.nfs_objects.proofs.ViewLookupLemmas.{same_address, so-ok}
use Rattle.nfs_engine.proofs.StandingCountLemmas.{given-some}
use Rattle.nfs_engine.proofs.TidySlotLemmas.{filled-of, needs-new, puts-new, puts-nothing, puts-there, stood-nowhere}
use Rattle.nfs_engine.proofs.TidySlotLemmas.{stood-there}
use Rattle.nfs_engine.specs.Tables.{Puts, empty_kept, kept_slots, kept_value}
use Rattle.nfs_engine.specs.declared.objects.StoredObject.{StoredObject}
use Rattle.nfs_engine.proofs.objects.put.Goals as goal

pub returns-in-Some-clause-puts : goal.returns-in-Some-clause-puts
returns-in-Some-clause-puts c =
    let object = option_map arc_value c.args.object in
    let kept : StoredObject = record { object = c.args.object; last = c.max-last.result } in
    puts-there c.args.slots.now c.args.address object c.in-Some.slot.now kept c.in-Some.ensures.value
    (c.get_mut.follows.lender kept) (c.get_mut.follows.holds kept)
    (filled-of (kept_value c.in-Some.slot.now) object c.generation-given.result c.max-last.result c.max-last.ensures
    c.generation-given.ensures)

pub returns-in-Some-clause-stood : goal.returns-in-Some-clause-stood
returns-in-Some-clause-stood c =
    stood-there c.args.slots.now c.args.address (option_map arc_value c.args.object) c.in-Some.slot.now
    c.in-Some.ensures.value c.is_some-stood.result c.is_some-stood.ensures

pub returns-in-Some-clause-room : goal.returns-in-Some-clause-room
returns-in-Some-clause-room c =
    let kept : StoredObject = record { object = c.args.object; last = c.max-last.result } in
    omega (arith, (c.get_mut.follows.holds kept).room)

pub add-requires : goal.add-requires
add-requires c = record {
  absent = subst (λ (t : tables.TableValue _ _). tables.value_at same_address t c.args.address ≡ None)
      (sym c.get_mut.follows.holds-at-none) (sym c.in_default.ensures.value);
}

pub unwrap-requires : goal.unwrap-requires
unwrap-requires c =
    let object = option_map arc_value c.args.object in
    c.add.ensures.succeeds (subst (λ (t : tables.TableValue _ _). 0 < t.room) (sym c.get_mut.follows.holds-at-none)
    (c.requires (needs-new c.args.slots.now c.args.address object c.in_default.ensures.value
    (sym (given-some arc_value c.args.object c.is_some.result c.is_some.ensures) ∙ c.if-is_some.true))))

pub returns-then-is_some-clause-puts : goal.returns-then-is_some-clause-puts
returns-then-is_some-clause-puts c =
    let object = option_map arc_value c.args.object in
    let kept : StoredObject = record { object = c.args.object; last = c.generation-given.result } in
    puts-new c.args.slots.now c.args.address object c.in_default.ensures.value
    (sym (given-some arc_value c.args.object c.is_some.result c.is_some.ensures) ∙ c.if-is_some.true) kept
    (filled-of empty_kept object c.generation-given.result c.generation-given.result (omega arith)
    c.generation-given.ensures) c.add.new.self
    (subst (λ (t : tables.TableValue _ _). tables.Changes same_address t c.add.new.self c.args.address (Some kept))
    c.get_mut.follows.holds-at-none (so-ok c.unwrap.ensures c.add.ensures.ok))

pub returns-then-is_some-clause-stood : goal.returns-then-is_some-clause-stood
returns-then-is_some-clause-stood c =
    stood-nowhere c.args.slots.now c.args.address (option_map arc_value c.args.object) c.in_default.ensures.value

pub returns-then-is_some-clause-room : goal.returns-then-is_some-clause-room
returns-then-is_some-clause-room c =
    let object = option_map arc_value c.args.object in
    subst (λ (b : Bool). c.args.slots.now.room ≤ c.add.new.self.room + cond b 1 0)
    (sym (needs-new c.args.slots.now c.args.address object c.in_default.ensures.value
    (sym (given-some arc_value c.args.object c.is_some.result c.is_some.ensures) ∙ c.if-is_some.true)))
    (subst (λ (t : tables.TableValue _ _). t.room ≤ c.add.new.self.room + 1) c.get_mut.follows.holds-at-none
    c.add.ensures.room)

pub returns-else-is_some-clause-puts : goal.returns-else-is_some-clause-puts
returns-else-is_some-clause-puts c =
    let object = option_map arc_value c.args.object in
    subst (λ (t : tables.TableValue _ _). Puts (kept_slots (tables.entries c.args.slots.now))
    (kept_slots (tables.entries t)) (c.args.address, object))
    (sym c.get_mut.follows.holds-at-none)
    (puts-nothing c.args.slots.now c.args.address object c.in_default.ensures.value
    (sym (given-some arc_value c.args.object c.is_some.result c.is_some.ensures) ∙ c.if-is_some.false))

pub returns-else-is_some-clause-stood : goal.returns-else-is_some-clause-stood
returns-else-is_some-clause-stood c =
    stood-nowhere c.args.slots.now c.args.address (option_map arc_value c.args.object) c.in_default.ensures.value
