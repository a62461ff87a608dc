-- Locks worked through: the modes of a list of locks at every offset, and what TEST shows of them.
use Rattle.std.proofs.Common.{◌≡◌, ℕ, ◌-◌, ◌^◌, ◌<◌, ◌≤◌, true, false, cond, [], ◌∷◌, Some}
use Rattle.std.proofs.Common.{None, find, refl, ap, arith}
use Rattle.nfs_machine.specs.Locks.{AreListed, HasModes, is_within, mode_at, modes_with}
use Rattle.nfs_machine.specs.LockSteps.{IsHolder}
use Rattle.nfs_machine.specs.State.{Lock, Owner}
use Rattle.machine_examples.specs.WorkedLocks.{a, b, holder, lock, range_at, split, to_the_end, whole, Exclusive}
use Rattle.std.specs.List.{count_by}
use Rattle.nfs_machine.proofs.ModesLemmas.{narrower, holds, mode_by}

-- one lock, of a range
pub one-listed : (l : Lock) → l.first ≤ l.last → l.last < 2 ^ 64 → AreListed (l ∷ [])
one-listed l rises fits = record {
  ranges = (record { rises = rises; fits = fits }, tt);
  once = λ owner offset. elim (holds owner offset l) as (λ t. count_by (λ (x : ℕ). t) (0 ∷ []) ≤ 1) [
    | true ↦ omega arith
    | false ↦ omega arith
  ];
}

-- where there was none
pub one-has : (l : Lock) → l.first ≤ l.last → l.last < 2 ^ 64 →
    HasModes (l ∷ []) (modes_with [] l.range (Some l.exclusive))
one-has l rises fits = record { modes_are = modes; listed = one-listed l rises fits }
  where
    modes : (owner : Owner) (offset : ℕ) →
        mode_at (l ∷ []) owner offset ≡ modes_with [] l.range (Some l.exclusive) owner offset
    modes owner offset = elim (holds owner offset l) as
        (λ t. mode_by (cond t (Some l) None) ≡ cond t (Some l.exclusive) None) [
          | true ↦ refl
          | false ↦ refl
        ]

pub locked : HasModes whole (modes_with [] (range_at a 0 100) Exclusive)
locked = one-has (lock a 0 99 true) (omega arith) (omega arith)

-- A's modes in the split lock
low : (offset : ℕ) → is_within 0 39 offset ≡ true → mode_at split a offset ≡ Exclusive
low offset e = ap (λ t. mode_by
    (cond t (Some (lock a 0 39 true)) (cond (is_within 60 99 offset) (Some (lock a 60 99 true)) None))) e

high : (offset : ℕ) → is_within 60 99 offset ≡ true → mode_at split a offset ≡ Exclusive
high offset e =
    elim (is_within 0 39 offset) as
    (λ t. mode_by (cond t (Some (lock a 0 39 true))
    (cond (is_within 60 99 offset) (Some (lock a 60 99 true)) None)) ≡ Exclusive) [
      | true ↦ refl
      | false ↦ ap (λ t. mode_by (cond t (Some (lock a 60 99 true)) None)) e
    ]

pub at-30 : IsHolder split (range_at b 30 1) Exclusive (holder 0 40)
at-30 = record {
  conflict = record { other = a; offset = 30; is_other = refl; is_inside = refl; conflict = refl };
  owner_is = refl;
  process_is = refl;
  last = 39;
  length_is = refl;
  is_shown = refl;
  has = low;
}

pub part-of-it : IsHolder split (range_at b 30 1) Exclusive (holder 30 5)
part-of-it = record {
  conflict = record { other = a; offset = 30; is_other = refl; is_inside = refl; conflict = refl };
  owner_is = refl;
  process_is = refl;
  last = 34;
  length_is = refl;
  is_shown = refl;
  has = λ offset e. low offset (narrower 30 34 0 39 offset (omega arith) (omega arith) e);
}

pub at-99 : IsHolder split (range_at b 99 1) Exclusive (holder 60 40)
at-99 = record {
  conflict = record { other = a; offset = 99; is_other = refl; is_inside = refl; conflict = refl };
  owner_is = refl;
  process_is = refl;
  last = 99;
  length_is = refl;
  is_shown = refl;
  has = high;
}

pub at-the-end : IsHolder to_the_end (range_at b (2 ^ 64 - 1) 1) Exclusive (holder 200 0)
at-the-end = record {
  conflict = record { other = a; offset = 2 ^ 64 - 1; is_other = refl; is_inside = refl; conflict = refl };
  owner_is = refl;
  process_is = refl;
  last = 2 ^ 64 - 1;
  length_is = refl;
  is_shown = refl;
  has = λ offset e. ap (λ t. mode_by (cond t (Some (lock a 200 (2 ^ 64 - 1) true)) (find (holds a offset) split))) e;
}
