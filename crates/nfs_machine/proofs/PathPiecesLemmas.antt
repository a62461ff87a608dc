-- The first piece of a text ends at the first slash, and the other pieces are those of what follows it.
use Rattle.std.proofs.Common.{
  ◌≡◌,
  ℕ,
  zero,
  suc,
  ◌<◌,
  ◌≤◌,
  ◌+◌,
  ◌-◌,
  Bool,
  true,
  false,
  cond,
  nat_eq,
  nat_lt,
  List,
  [],
  ◌∷◌,
  length,
  get_or,
  take,
  drop,
  Some,
  None,
  refl,
  arith,
  add-one,
  ltb-false,
}
use Rattle.std.proofs.lemmas.List.{take_rest}
use Rattle.std.proofs.lemmas.List.Quantifiers.{position-Some}
use Rattle.std.proofs.lemmas.List.Sums.{fails_before_first}
use Rattle.std.specs.List.{position, position_or_len}
use Rattle.nfs_machine.specs.Paths.{pieces}

pub pieces-at : (text : List ℕ) (at : ℕ) → at < length text → nat_eq (get_or text at 0) 47 ≡ true
    → ((k : ℕ) → k < at → nat_eq (get_or text k 0) 47 ≡ false)
    → pieces text ≡ take at text ∷ pieces (drop (suc at) text)
pieces-at [] at h e none = absurd (omega arith)
pieces-at (b ∷ text) zero h e none = rw e refl
pieces-at (b ∷ text) (suc at) h e none =
    let other : nat_eq b 47 ≡ false = none zero (omega arith) in
    let rest : pieces text ≡ take at text ∷ pieces (drop (suc at) text) = pieces-at text at (omega arith) e
    (λ k l. none (suc k) (omega arith)) in
    rw (other, rest) refl

pub pieces-whole : (text : List ℕ) → ((k : ℕ) → k < length text → nat_eq (get_or text k 0) 47 ≡ false)
    → pieces text ≡ text ∷ []
pieces-whole [] none = refl
pieces-whole (b ∷ text) none =
    let other : nat_eq b 47 ≡ false = none zero (omega arith) in
    let rest : pieces text ≡ text ∷ [] = pieces-whole text (λ k l. none (suc k) (omega arith)) in
    rw (other, rest) refl

not_found : (b : Bool) (n : ℕ) → cond b (Some n) None ≡ None → b ≡ false
not_found true n e = cc
not_found false n e = refl

pub pieces-none : (text : List ℕ) → position (λ b. nat_eq b 47) text ≡ None → pieces text ≡ text ∷ []
pieces-none text e =
    let out : nat_lt (position_or_len (λ b. nat_eq b 47) text) (length text) ≡ false = not_found _ _ e in
    let past : length text ≤ position_or_len (λ b. nat_eq b 47) text = ltb-false _ _ out in
    pieces-whole text (λ k l. fails_before_first (λ b. nat_eq b 47) text k 0 (omega arith))

pub pieces-some : (text : List ℕ) (at : ℕ) → position (λ b. nat_eq b 47) text ≡ Some at
    → pieces text ≡ take at text ∷ pieces (take (length text - (at + 1)) (drop (at + 1) text))
pieces-some text at e =
    let found = position-Some (λ (b : ℕ). nat_eq b 47) text at 0 e in
    rw (take_rest text (at + 1), add-one at) (pieces-at text at found.0 found.1 found.2)
