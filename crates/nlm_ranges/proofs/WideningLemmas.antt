-- A range with the locks of its owner that it continues.
use Rattle.std.proofs.Common.{◌≡◌, ℕ, ◌+◌, ◌-◌, ◌^◌, ◌<◌, ◌≤◌, true, List, arith, subst}
use Rattle.std.proofs.lemmas.Bool.{and_parts}
use Rattle.std.specs.List.{Contains}
use Rattle.nfs_machine.specs.Locks.{is_in, is_within, same_owner}
use Rattle.nfs_machine.specs.State.{Lock, Range}
use Rattle.nlm_ranges.proofs.ModesAtLemmas.{Within, both, offset-within, within}
use Rattle.nlm_ranges.specs.Held.{BeginsWith, EndsWith, GoesOn, IsHad, Precedes}

-- the offsets of a lock that has one
lock-within : (r : Range) (lock : Lock) (at : ℕ) → is_in lock.range r.owner at ≡ true → Within lock.first lock.last at
lock-within r lock at is =
    offset-within lock.first lock.last at
    (and_parts (same_owner lock.owner r.owner) (is_within lock.first lock.last at) is).1

-- a lock that has one offset has those between that and its own ends
had-between : (list : List Lock) (r : Range) (lock : Lock) (at x : ℕ) → Contains list lock →
    is_in lock.range r.owner at ≡ true → lock.first ≤ x → x ≤ lock.last → IsHad list r x
had-between list r lock at x there is low high = record {
  lock = lock;
  listed = there;
  has = both _ _
      (and_parts (same_owner lock.owner r.owner) (is_within lock.first lock.last at) is).0
      (within lock.first lock.last x low high);
}

module _ (list : List Lock) (r : Range) where
  pub begins-itself : BeginsWith list r r.first
  begins-itself = record { low = omega arith; has = λ x low under. absurd (omega (arith, low, under)) }

  pub ends-itself : r.last < 2 ^ 64 → EndsWith list r r.last
  ends-itself fits = record {
    high = omega arith;
    fits = fits;
    has = λ x over high. absurd (omega (arith, over, high));
  }

  module _ (lock : Lock) where
    -- by the numbers that the code has
    pub precedes : (first : ℕ) → first ≡ r.first → (first ≡ 0 → ⊥) → Contains list lock →
        is_in lock.range r.owner (first - 1) ≡ true → Precedes list r lock
    precedes first same some there has =
        let w1 = (lock-within r lock (first - 1) has).low in record {
          listed = there;
          has = subst (λ n. is_in lock.range r.owner (n - 1) ≡ true) same has;
          more = (let less : lock.first < r.first = omega (arith, w1, same, some) in less);
        }

    pub goes-on : (last : ℕ) → last ≡ r.last → Contains list lock →
        is_in lock.range r.owner (last + 1) ≡ true → GoesOn list r lock
    goes-on last same there has =
        let w2 = (lock-within r lock (last + 1) has).high in record {
          listed = there;
          has = subst (λ n. is_in lock.range r.owner (n + 1) ≡ true) same has;
          more = (let less : r.last < lock.last = omega (arith, w2, same) in less);
        }

    pub begins-more : Precedes list r lock → BeginsWith list r lock.first
    begins-more p =
        let w2 = (lock-within r lock (r.first - 1) p.has).high in
        let more = p.more in record {
          low = omega (arith, more);
          has = λ x low under. had-between list r lock (r.first - 1) x p.listed p.has low (omega (arith, w2, under));
        }

    pub ends-more : GoesOn list r lock → lock.last < 2 ^ 64 → EndsWith list r lock.last
    ends-more on fits =
        let w1 = (lock-within r lock (r.last + 1) on.has).low in
        let more = on.more in record {
          high = omega (arith, more);
          fits = fits;
          has = λ x over high. had-between list r lock (r.last + 1) x on.listed on.has (omega (arith, w1, over)) high;
        }
