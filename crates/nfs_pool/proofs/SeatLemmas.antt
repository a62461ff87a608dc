-- A seat with one receipt more.
use Rattle.std.proofs.Common.{◌≡◌, ℕ, ◌<◌, ◌≤◌, List, [], ◌∷◌, ◌++◌, length, length-append, refl, sym, ◌∙◌, ap, subst}
use Rattle.std.proofs.Common.{arith}
use Rattle.std.specs.List.{AllByRecursion}
use Rattle.nfs_machine.specs.Run.{Arrival}
use Rattle.nfs_engine.specs.Arrivals.{ArrivalValue}
use Rattle.nfs_engine.specs.declared.journal.Receipt.{Receipt}
use Rattle.nfs_pool.proofs.CountsLemmas.{counts-more}
use Rattle.nfs_pool.specs.Passes.{IsNext}
use Rattle.nfs_pool.specs.Seats.{Counts, Gains, IsReceiptOf, IsSeat}

more_below : (last n : ℕ) → last < n → (rs : List Receipt) → AllByRecursion (λ (r : Receipt). r.number ≤ last) rs →
    (x : Receipt) → x.number ≡ n → AllByRecursion (λ (r : Receipt). r.number ≤ n) (rs ++ x ∷ [])
more_below last n h [] all x top = (omega (arith, top), tt)
more_below last n h (r ∷ rs) all x top = (omega (arith, all.0, h), more_below last n h rs all.1 x top)

all_under : (last n : ℕ) → last < n → (rs : List Receipt) → AllByRecursion (λ (r : Receipt). r.number ≤ last) rs →
    AllByRecursion (λ (r : Receipt). r.number < n) rs
all_under last n h [] all = tt
all_under last n h (r ∷ rs) all = (omega (arith, all.0, h), all_under last n h rs all.1)

pub seat_after : (shard last : ℕ) (old new : List Receipt) (parts before after parts' : ℕ) (r : Arrival)
    (receipt : Receipt) → IsSeat (record { shard = shard; receipts = old; last = last }) parts before →
    new ≡ old ++ receipt ∷ [] → IsNext r last before after receipt → parts' ≡ parts →
    IsSeat (record { shard = shard; receipts = new; last = receipt.number }) parts' after
seat_after shard last old new parts before after parts' r receipt seat is next same = record {
  part = same ∙ seat.part;
  counted = subst (λ (n : ℕ). Counts n after) (omega (arith, ap length is, length-append old (receipt ∷ [])))
      (counts-more (length old) before after seat.counted next.counted);
  below = subst (λ (rs : List Receipt). AllByRecursion (λ (x : Receipt). x.number ≤ receipt.number) rs) (sym is)
      (more_below last receipt.number next.above old seat.below receipt refl);
  shard = seat.shard;
}

pub seat_gains : (a : ArrivalValue) (r : Arrival) → r ≡ a.received → (shard last : ℕ) (old new : List Receipt)
    (parts before after : ℕ) (receipt : Receipt) →
    IsSeat (record { shard = shard; receipts = old; last = last }) parts before → new ≡ old ++ receipt ∷ [] →
    IsNext r last before after receipt →
    Gains a (record { shard = shard; receipts = old; last = last })
    (record { shard = shard; receipts = new; last = receipt.number })
seat_gains a r same shard last old new parts before after receipt seat is next = record {
  receipt = receipt;
  more = is;
  of_call = subst (λ (x : Arrival). IsReceiptOf x receipt) same next.of_call;
  above = all_under last receipt.number next.above old seat.below;
  past = next.above;
  last = refl;
}
