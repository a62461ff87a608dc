use Rattle.std.proofs.Common.{option_map, sym, ◌∙◌}
use Rattle.std.proofs.lemmas.Bool.Decides.{not_from_Decides}
use Rattle.std.specs.Arc.{arc_value}
use Rattle.nfs_engine.proofs.SlotReplacedLemmas.{absent_replaced, absent_stood, number_object, number_replaced}
use Rattle.nfs_engine.proofs.SlotReplacedLemmas.{number_taken, other_object, other_replaced, other_taken}
use Rattle.nfs_engine.proofs.shard.Shard.replace.Goals as goal

pub invariant_of-self : goal.invariant_of-self
invariant_of-self c =
    (number_taken _ _ c.self.inside.numbers c.self.inside.others c.args.address c.self.invariant c.in-Some.key
    (rw (← c.self.view_is) at c.in-Some.ensures.0) c.index_mut.result.now c.index_mut.ensures.value c.replace.new.self
    (option_map arc_value c.args.object.now) c.replace.ensures.put c.remove_number.new.numbers c.remove_number.ensures
    (c.replace.ensures.idle.0 c.if-replace.true)).0

pub returns-then-replace-clause-fills : goal.returns-then-replace-clause-fills
returns-then-replace-clause-fills c =
    rw (← c.self.view_is)
    ((number_taken _ _ c.self.inside.numbers c.self.inside.others c.args.address c.self.invariant c.in-Some.key
    (rw (← c.self.view_is) at c.in-Some.ensures.0) c.index_mut.result.now c.index_mut.ensures.value c.replace.new.self
    (option_map arc_value c.args.object.now) c.replace.ensures.put c.remove_number.new.numbers c.remove_number.ensures
    (c.replace.ensures.idle.0 c.if-replace.true)).1)

pub returns-then-replace-clause-stood : goal.returns-then-replace-clause-stood
returns-then-replace-clause-stood c =
    rw (← c.self.view_is)
    (c.replace.ensures.stood
    ∙ sym (number_object _ _ c.self.inside.numbers c.self.inside.others c.args.address c.self.invariant c.in-Some.key
    (rw (← c.self.view_is) at c.in-Some.ensures.0) c.index_mut.result.now c.index_mut.ensures.value c.replace.new.self
    (option_map arc_value c.args.object.now) c.replace.ensures.put))

pub invariant_of-self-else-replace : goal.invariant_of-self-else-replace
invariant_of-self-else-replace c =
    (number_replaced _ _ c.self.inside.numbers c.self.inside.others c.args.address c.self.invariant c.in-Some.key
    (rw (← c.self.view_is) at c.in-Some.ensures.0) c.index_mut.result.now c.index_mut.ensures.value c.replace.new.self
    (option_map arc_value c.args.object.now) c.replace.ensures.put
    (not_from_Decides c.replace.result c.replace.ensures.idle c.if-replace.false)).0

pub returns-else-replace-clause-fills : goal.returns-else-replace-clause-fills
returns-else-replace-clause-fills c =
    rw (← c.self.view_is)
    ((number_replaced _ _ c.self.inside.numbers c.self.inside.others c.args.address c.self.invariant c.in-Some.key
    (rw (← c.self.view_is) at c.in-Some.ensures.0) c.index_mut.result.now c.index_mut.ensures.value c.replace.new.self
    (option_map arc_value c.args.object.now) c.replace.ensures.put
    (not_from_Decides c.replace.result c.replace.ensures.idle c.if-replace.false)).1)

pub returns-else-replace-clause-stood : goal.returns-else-replace-clause-stood
returns-else-replace-clause-stood c =
    rw (← c.self.view_is)
    (c.replace.ensures.stood
    ∙ sym (number_object _ _ c.self.inside.numbers c.self.inside.others c.args.address c.self.invariant c.in-Some.key
    (rw (← c.self.view_is) at c.in-Some.ensures.0) c.index_mut.result.now c.index_mut.ensures.value c.replace.new.self
    (option_map arc_value c.args.object.now) c.replace.ensures.put))

pub returns-in_default-get_mut-clause-fills : goal.returns-in_default-get_mut-clause-fills
returns-in_default-get_mut-clause-fills c =
    rw (← c.self.view_is)
    (absent_replaced _ _ c.self.inside.numbers c.self.inside.others c.args.address c.self.invariant
    (rw (← c.self.view_is) at c.in_default.ensures) c.in_default-get_mut.ensures.value
    (option_map arc_value c.args.object.now) (rw (← c.self.view_is) at c.requires)
    c.get_mut.follows.lender-at-none c.get_mut.follows.holds-at-none)

pub returns-in_default-get_mut-clause-stood : goal.returns-in_default-get_mut-clause-stood
returns-in_default-get_mut-clause-stood c =
    rw (← c.self.view_is)
    (absent_stood _ _ c.self.inside.numbers c.self.inside.others c.args.address c.self.invariant
    (rw (← c.self.view_is) at c.in_default.ensures) c.in_default-get_mut.ensures.value
    (option_map arc_value c.args.object.now) (rw (← c.self.view_is) at c.requires))

pub invariant_of-self-then-replace-2 : goal.invariant_of-self-then-replace-2
invariant_of-self-then-replace-2 c =
    (other_taken _ _ c.self.inside.numbers c.self.inside.others c.args.address c.self.invariant
    (rw (← c.self.view_is) at c.in_default.ensures) c.in-Some-get_mut.slot.now c.in-Some-get_mut.ensures.value
    c.replace-2.new.self (c.get_mut.follows.lender c.replace-2.new.self) (c.get_mut.follows.holds c.replace-2.new.self)
    (option_map arc_value c.args.object.now) c.replace-2.ensures.put c.remove_other.new.others c.remove_other.ensures
    (c.replace-2.ensures.idle.0 c.if-replace-2.true)).0

pub returns-then-replace-2-clause-fills : goal.returns-then-replace-2-clause-fills
returns-then-replace-2-clause-fills c =
    rw (← c.self.view_is)
    ((other_taken _ _ c.self.inside.numbers c.self.inside.others c.args.address c.self.invariant
    (rw (← c.self.view_is) at c.in_default.ensures) c.in-Some-get_mut.slot.now c.in-Some-get_mut.ensures.value
    c.replace-2.new.self (c.get_mut.follows.lender c.replace-2.new.self) (c.get_mut.follows.holds c.replace-2.new.self)
    (option_map arc_value c.args.object.now) c.replace-2.ensures.put c.remove_other.new.others c.remove_other.ensures
    (c.replace-2.ensures.idle.0 c.if-replace-2.true)).1)

pub returns-then-replace-2-clause-stood : goal.returns-then-replace-2-clause-stood
returns-then-replace-2-clause-stood c =
    rw (← c.self.view_is)
    (c.replace-2.ensures.stood
    ∙ sym (other_object _ _ c.self.inside.numbers c.self.inside.others c.args.address c.self.invariant
    (rw (← c.self.view_is) at c.in_default.ensures) c.in-Some-get_mut.slot.now c.in-Some-get_mut.ensures.value
    c.replace-2.new.self (c.get_mut.follows.lender c.replace-2.new.self) (c.get_mut.follows.holds c.replace-2.new.self)
    (option_map arc_value c.args.object.now) c.replace-2.ensures.put))

pub invariant_of-self-else-replace-2 : goal.invariant_of-self-else-replace-2
invariant_of-self-else-replace-2 c =
    (other_replaced _ _ c.self.inside.numbers c.self.inside.others c.args.address c.self.invariant
    (rw (← c.self.view_is) at c.in_default.ensures) c.in-Some-get_mut.slot.now c.in-Some-get_mut.ensures.value
    c.replace-2.new.self (c.get_mut.follows.lender c.replace-2.new.self) (c.get_mut.follows.holds c.replace-2.new.self)
    (option_map arc_value c.args.object.now) c.replace-2.ensures.put
    (not_from_Decides c.replace-2.result c.replace-2.ensures.idle c.if-replace-2.false)).0

pub returns-else-replace-2-clause-fills : goal.returns-else-replace-2-clause-fills
returns-else-replace-2-clause-fills c =
    rw (← c.self.view_is)
    ((other_replaced _ _ c.self.inside.numbers c.self.inside.others c.args.address c.self.invariant
    (rw (← c.self.view_is) at c.in_default.ensures) c.in-Some-get_mut.slot.now c.in-Some-get_mut.ensures.value
    c.replace-2.new.self (c.get_mut.follows.lender c.replace-2.new.self) (c.get_mut.follows.holds c.replace-2.new.self)
    (option_map arc_value c.args.object.now) c.replace-2.ensures.put
    (not_from_Decides c.replace-2.result c.replace-2.ensures.idle c.if-replace-2.false)).1)

pub returns-else-replace-2-clause-stood : goal.returns-else-replace-2-clause-stood
returns-else-replace-2-clause-stood c =
    rw (← c.self.view_is)
    (c.replace-2.ensures.stood
    ∙ sym (other_object _ _ c.self.inside.numbers c.self.inside.others c.args.address c.self.invariant
    (rw (← c.self.view_is) at c.in_default.ensures) c.in-Some-get_mut.slot.now c.in-Some-get_mut.ensures.value
    c.replace-2.new.self (c.get_mut.follows.lender c.replace-2.new.self) (c.get_mut.follows.holds c.replace-2.new.self)
    (option_map arc_value c.args.object.now) c.replace-2.ensures.put))
