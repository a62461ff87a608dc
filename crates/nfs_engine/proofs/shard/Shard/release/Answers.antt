use Rattle.std.proofs.lemmas.Bool.Decides.{not_from_Decides}
use Rattle.nfs_engine.proofs.SlotStepLemmas.{absent_left, number_goes, number_stays, other_goes, other_stays}
use Rattle.nfs_engine.proofs.shard.Shard.release.Goals as goal

pub invariant_of-self : goal.invariant_of-self
invariant_of-self c =
    (number_goes _ _ c.self.inside.numbers c.self.inside.others c.args.address c.self.invariant c.in-Some.key
    (rw (← c.self.view_is) at c.in-Some.ensures.0) c.index_mut.result.now c.index_mut.ensures.value c.release.new.self
    c.args.id c.remove_number.new.numbers c.release.ensures.left (c.release.ensures.idle.0 c.if-release.true)
    c.remove_number.ensures).0

pub returns-then-release : goal.returns-then-release
returns-then-release c =
    rw (← c.self.view_is)
    ((number_goes _ _ c.self.inside.numbers c.self.inside.others c.args.address c.self.invariant c.in-Some.key
    (rw (← c.self.view_is) at c.in-Some.ensures.0) c.index_mut.result.now c.index_mut.ensures.value c.release.new.self
    c.args.id c.remove_number.new.numbers c.release.ensures.left (c.release.ensures.idle.0 c.if-release.true)
    c.remove_number.ensures).1)

pub invariant_of-self-else-release : goal.invariant_of-self-else-release
invariant_of-self-else-release c =
    (number_stays _ _ c.self.inside.numbers c.self.inside.others c.args.address c.self.invariant c.in-Some.key
    (rw (← c.self.view_is) at c.in-Some.ensures.0) c.index_mut.result.now c.index_mut.ensures.value c.release.new.self
    c.args.id c.release.ensures.left
    (not_from_Decides c.release.result c.release.ensures.idle c.if-release.false)).0

pub returns-else-release : goal.returns-else-release
returns-else-release c =
    rw (← c.self.view_is)
    ((number_stays _ _ c.self.inside.numbers c.self.inside.others c.args.address c.self.invariant c.in-Some.key
    (rw (← c.self.view_is) at c.in-Some.ensures.0) c.index_mut.result.now c.index_mut.ensures.value c.release.new.self
    c.args.id c.release.ensures.left
    (not_from_Decides c.release.result c.release.ensures.idle c.if-release.false)).1)

pub returns-in_default-get_mut : goal.returns-in_default-get_mut
returns-in_default-get_mut c =
    rw (← c.self.view_is)
    (absent_left _ _ c.self.inside.numbers c.self.inside.others c.args.address c.self.invariant
    (rw (← c.self.view_is) at c.in_default.ensures) c.in_default-get_mut.ensures.value c.args.id
    c.get_mut.follows.lender-at-none c.get_mut.follows.holds-at-none)

pub invariant_of-self-then-release-2 : goal.invariant_of-self-then-release-2
invariant_of-self-then-release-2 c =
    (other_goes _ _ c.self.inside.numbers c.self.inside.others c.args.address c.self.invariant
    (rw (← c.self.view_is) at c.in_default.ensures) c.in-Some-get_mut.slot.now c.in-Some-get_mut.ensures.value
    c.release-2.new.self (c.get_mut.follows.lender c.release-2.new.self) (c.get_mut.follows.holds c.release-2.new.self)
    c.args.id c.remove_other.new.others c.remove_other.ensures c.release-2.ensures.left
    (c.release-2.ensures.idle.0 c.if-release-2.true)).0

pub returns-then-release-2 : goal.returns-then-release-2
returns-then-release-2 c =
    rw (← c.self.view_is)
    ((other_goes _ _ c.self.inside.numbers c.self.inside.others c.args.address c.self.invariant
    (rw (← c.self.view_is) at c.in_default.ensures) c.in-Some-get_mut.slot.now c.in-Some-get_mut.ensures.value
    c.release-2.new.self (c.get_mut.follows.lender c.release-2.new.self) (c.get_mut.follows.holds c.release-2.new.self)
    c.args.id c.remove_other.new.others c.remove_other.ensures c.release-2.ensures.left
    (c.release-2.ensures.idle.0 c.if-release-2.true)).1)

pub invariant_of-self-else-release-2 : goal.invariant_of-self-else-release-2
invariant_of-self-else-release-2 c =
    (other_stays _ _ c.self.inside.numbers c.self.inside.others c.args.address c.self.invariant
    (rw (← c.self.view_is) at c.in_default.ensures) c.in-Some-get_mut.slot.now c.in-Some-get_mut.ensures.value
    c.release-2.new.self (c.get_mut.follows.lender c.release-2.new.self) (c.get_mut.follows.holds c.release-2.new.self)
    c.args.id c.release-2.ensures.left
    (not_from_Decides c.release-2.result c.release-2.ensures.idle c.if-release-2.false)).0

pub returns-else-release-2 : goal.returns-else-release-2
returns-else-release-2 c =
    rw (← c.self.view_is)
    ((other_stays _ _ c.self.inside.numbers c.self.inside.others c.args.address c.self.invariant
    (rw (← c.self.view_is) at c.in_default.ensures) c.in-Some-get_mut.slot.now c.in-Some-get_mut.ensures.value
    c.release-2.new.self (c.get_mut.follows.lender c.release-2.new.self) (c.get_mut.follows.holds c.release-2.new.self)
    c.args.id c.release-2.ensures.left
    (not_from_Decides c.release-2.result c.release-2.ensures.idle c.if-release-2.false)).1)
