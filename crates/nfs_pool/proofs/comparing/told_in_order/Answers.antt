use Rattle.std.proofs.Common.{◌∙◌, ◌++◌, List, ap, map, rules, subst, ℕ}
use Rattle.std.specs.Prelude.{IsPermutation}
use Rattle.std.proofs.lemmas.List.{take_all}
use Rattle.std.proofs.lemmas.List.Sorted.{IsNonDecreasingBy-from_sort, IsPermutation-map, answers_always}
use Rattle.nfs_machine.specs.Run.{Record}
use Rattle.nfs_pool.specs.Eras.{told, told_by, told_number, told_value}
use Rattle.nfs_pool.specs.Seats.{SeatValue}
use Rattle.nfs_pool.proofs.ReceiptNumberLemmas.{told_each-next}
use Rattle.nfs_pool.proofs.comparing.told_in_order.Goals as goal

pub loop-seat-preserved : goal.loop-seat-preserved
loop-seat-preserved g c =
    c.in_ok-add_receipts.ensures
    ∙ ap (λ (ts : List (ℕ × Record)). ts ++ map told c.receipts.result.now) c.loop-seat.invariant
    ∙ told_each-next (λ (s : SeatValue). s.receipts) c.args.seats.now c.loop-seat.seat-index c.seat-item.result
    c.receipts.result.now c.loop-seat-test.true c.seat-item.is c.receipts.ensures

pub returns-clause-told : goal.returns-clause-told
returns-clause-told g c =
    subst (λ (ts : List (ℕ × Record)). IsPermutation ts (map told_value c.sort_unstable_by_key.new.self.items))
    (c.loop-seat.invariant ∙ ap told_by
    (take_all c.loop-seat.seat-index c.args.seats.now c.loop-seat-test.false))
    (IsPermutation-map told_value c.loop-seat.tells.items c.sort_unstable_by_key.new.self.items
    c.sort_unstable_by_key.ensures.permutation)

pub returns-clause-rises : goal.returns-clause-rises
returns-clause-rises g c = IsNonDecreasingBy-from_sort told_number _
    (c.sort_unstable_by_key.ensures.sorted told_number (answers_always _ _ _ (λ f a r h k. search rules)))
