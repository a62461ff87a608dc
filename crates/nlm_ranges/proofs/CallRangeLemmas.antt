-- The range that a call names.
use Rattle.std.proofs.Common.{◌≡◌, ◌==◌, ℕ, ◌+◌, ◌-◌, ◌^◌, ◌≤◌, true, false, cond}
use Rattle.std.proofs.Common.{refl, sym, ◌∙◌, ap, arith}
use Rattle.std.proofs.lemmas.Bool.{le-leb, leb-true}
use Rattle.std.specs.Cmp.{unsigned_Decides}
use Rattle.side_wire.specs.declared.message.NlmLock.{NlmLock}
use Rattle.nfs_machine.specs.Locks.{fits_offsets, range_of, same_owner}
use Rattle.nfs_machine.specs.State.{Owner, Range}
use Rattle.nfs_machine.proofs.ModesLemmas.{one-owner, other-back, owner-itself}

-- the owner's range between two offsets
abbrev pub asked : NlmLock → ℕ → ℕ → Range
asked l first last = record { owner = (range_of l).owner; first = first; last = last }

is-zero : (n : ℕ) → n ≡ 0 → (n == 0) ≡ true
is-zero n e = (unsigned_Decides n 0).1 e

pub not-zero : (n : ℕ) → (n ≡ 0 → ⊥) → (n == 0) ≡ false
not-zero n some =
    elim (n == 0) as (λ b. (n == 0) ≡ b → b ≡ false) [
      | true ↦ λ e. absurd (some ((unsigned_Decides n 0).0 e))
      | false ↦ λ e. refl
    ] refl

pub whole-range : (l : NlmLock) → l.length ≡ 0 → asked l l.offset (2 ^ 64 - 1) ≡ range_of l
whole-range l none =
    ap (λ b. asked l l.offset (cond b (2 ^ 64 - 1) (l.offset + l.length - 1))) (sym (is-zero l.length none))

pub some-range : (l : NlmLock) (last : ℕ) → (l.length ≡ 0 → ⊥) → last ≡ l.offset + (l.length - 1) →
    asked l l.offset last ≡ range_of l
some-range l last some is =
    ap (asked l l.offset) (let same : last ≡ l.offset + l.length - 1 = omega (arith, some, is) in same)
    ∙ ap (λ b. asked l l.offset (cond b (2 ^ 64 - 1) (l.offset + l.length - 1)))
    (sym (not-zero l.length some))

pub fitting : (l : NlmLock) → l.offset + l.length ≤ 2 ^ 64 → fits_offsets l ≡ true
fitting l few = le-leb (l.offset + l.length) (2 ^ 64) few

pub fits-below : (l : NlmLock) → fits_offsets l ≡ true → l.offset + l.length ≤ 2 ^ 64
fits-below l e = leb-true (l.offset + l.length) (2 ^ 64) e

-- owners are compared from either side
pub owner-turned : (a b : Owner) → same_owner a b ≡ same_owner b a
owner-turned a b =
    elim (same_owner a b) as (λ s. same_owner a b ≡ s → s ≡ same_owner b a) [
      | true ↦ λ e. sym (ap (λ p. same_owner b p) (one-owner a b e) ∙ owner-itself b)
      | false ↦ λ e. sym (other-back a b e)
    ] refl
