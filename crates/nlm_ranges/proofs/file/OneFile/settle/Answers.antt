use Rattle.std.proofs.Common.{◌++◌, ap, map, refl, subst, ◌∙◌}
use Rattle.std.specs.Arc.{arc_value}
use Rattle.std.specs.List.{AllByRecursion}
use Rattle.nfs_machine.specs.OneFile.{IsHeldUp}
use Rattle.nlm_ranges.proofs.GrantingLemmas.{none-pending, settles-file, settles-nothing}
use Rattle.nlm_ranges.proofs.file.OneFile.settle.Goals as goal
use Rattle.nlm_ranges.specs.Files.{FileValue}

pub returns-then-are_held_up : goal.returns-then-are_held_up
returns-then-are_held_up c =
    let old = c.args.self.now in
    let new = c.in_ok-clone.field-0 in
    let none = ap (map arc_value) c.new.ensures.items in
    let locks = c.deref-2.ensures ∙ ap (λ (f : FileValue). f.held.locks) c.self.view_is in
    let waiting = c.deref.ensures ∙ ap (λ (f : FileValue). f.held.waiting) c.self.view_is in
    record {
      settles = settles-nothing old.held new.held (map arc_value c.new.result.items)
          (subst (λ ls. AllByRecursion (IsHeldUp ls) old.held.waiting) locks
          (subst (AllByRecursion (IsHeldUp c.deref-2.result.now)) waiting
          (c.are_held_up.ensures c.if-are_held_up.true))) none
          (ap (λ (f : FileValue). f.held) c.in_ok-clone.ensures.cases);
      pending = none-pending old.pending new.pending (map arc_value c.new.result.items) none
          (ap (λ (f : FileValue). f.pending) c.in_ok-clone.ensures.cases);
    }

pub returns : goal.returns
returns c =
    let old = c.args.self.now in
    let settling = c.in_ok-locks.field-0 in
    record {
      settles = settles-file old.held _ (arc_value c.self.inside.locks) (arc_value settling.locks) c.deref-3.result.now
          (map arc_value settling.waiting.items) (map arc_value settling.granted.items)
          (ap (λ (f : FileValue). f.held.locks) c.self.view_is)
          (c.deref-3.ensures ∙ ap (λ (f : FileValue). f.held.waiting) c.self.view_is) c.in_ok-locks.ensures refl
          (c.in_ok-try_clone.ensures ∙ ap (λ (f : FileValue). f.held.shares) c.self.view_is)
          (c.in_ok-new.ensures.ok ∙ c.in_ok-of.ensures ∙ ap (map arc_value) c.deref-4.ensures.value);
      pending = c.in_ok-new-2.ensures.ok ∙ c.in_ok-with_all.ensures
          ∙ (λ i. (c.deref-5.ensures ∙ ap (λ (f : FileValue). f.pending) c.self.view_is) i
          ++ ap (map arc_value) c.deref-6.ensures.value i);
    }
