-- Entries in rising order of cookie: those behind a cookie are the last ones, from the first of them on.
use Rattle.std.proofs.Common.{◌≡◌, ℕ, zero, suc, ◌≤◌, ◌<◌, Bool, true, false, cond, drop, List, []}
use Rattle.std.proofs.Common.{◌∷◌}
use Rattle.std.proofs.Common.{length, get_or, leb, leb-true, ltb, arith, refl, sym, ◌∙◌, ap}
use Rattle.std.proofs.lemmas.Bool.{le-ltb, leb-false, lt-ltb}
use Rattle.std.specs.List.{AllWithin}
use Rattle.std.specs.List.Sorted.{IsNonDecreasingBy}
use Rattle.nfs_machine.specs.Pages.{behind}
use Rattle.nfs_machine.specs.State.{Entry}
use Rattle.nfs_machine.specs.WellFormed.{CookiesRise}

abbrev pub cookie_of : Entry → ℕ
cookie_of e = e.cookie

-- ---- cookies that rise do not fall
above : (entries : List Entry) (below last j : ℕ) (d : Entry) → CookiesRise below entries last →
    j < length entries → below < cookie_of (get_or entries j d)
above [] below last j d rise within = absurd (omega arith)
above (e ∷ entries) below last zero d rise within = rise.0
above (e ∷ entries) below last (suc j) d rise within =
    let first = rise.0 in
    let rest = above entries (cookie_of e) last j d rise.1 (omega (arith, within)) in
    omega (arith, first, rest)

pub rise-up : (entries : List Entry) (below last : ℕ) → CookiesRise below entries last →
    IsNonDecreasingBy cookie_of entries
rise-up [] below last rise i j d le within = absurd (omega arith)
rise-up (e ∷ entries) below last rise zero zero d le within = omega arith
rise-up (e ∷ entries) below last rise zero (suc j) d le within =
    let rest = above entries (cookie_of e) last j d rise.1 (omega (arith, within)) in
    omega (arith, rest)
rise-up (e ∷ entries) below last rise (suc i) zero d le within = absurd (omega (arith, le))
rise-up (e ∷ entries) below last rise (suc i) (suc j) d le within =
    rise-up entries (cookie_of e) last rise.1 i j d (omega (arith, le)) (omega (arith, within))

-- ---- what stands behind the place
module _ (cookie : ℕ) where
  abbrev NotBehind : Entry → Type 0
  NotBehind e = leb (cookie_of e) cookie ≡ true

  abbrev Behind : Entry → Type 0
  Behind e = leb (cookie_of e) cookie ≡ false

  next : (P : Entry → Type 0) (e : Entry) (entries : List Entry) (low first high : ℕ) →
      ((k : ℕ) → low ≤ k → first ≤ suc k) → AllWithin P (e ∷ entries) first (suc high) →
      AllWithin P entries low high
  next P e entries low first high lower all k d from below = all (suc k) d (lower k from) (omega (arith, below))

  -- the first entry is left, or it is not
  left : (e : Entry) (entries : List Entry) (b : Bool) → ltb cookie (cookie_of e) ≡ b →
      behind cookie (e ∷ entries) ≡ cond b (e ∷ behind cookie entries) (behind cookie entries)
  left e entries b is = ap (λ t. cond t (e ∷ behind cookie entries) (behind cookie entries)) is

  pub drop-behind : (entries : List Entry) (i : ℕ) → i ≤ length entries → AllWithin NotBehind entries 0 i →
      AllWithin Behind entries i (length entries) →
      drop i entries ≡ behind cookie entries
  drop-behind [] zero within before after = refl
  drop-behind [] (suc i) within before after = refl
  drop-behind (e ∷ entries) zero within before after =
      let over = leb-false (cookie_of e) cookie (after 0 e (omega arith) (omega arith)) in
      ap (λ es. e ∷ es)
      (drop-behind entries zero (omega arith) (λ k d low high. absurd (omega (arith, high)))
      (next Behind e entries 0 0 (length entries) (λ k from. omega arith) after))
      ∙ sym (left e entries true (lt-ltb cookie (cookie_of e) over))
  drop-behind (e ∷ entries) (suc i) within before after =
      let under = leb-true (cookie_of e) cookie (before 0 e (omega arith) (omega arith)) in
      drop-behind entries i (omega (arith, within)) (next NotBehind e entries 0 0 i (λ k from. omega arith) before)
      (next Behind e entries i (suc i) (length entries) (λ k from. omega (arith, from)) after)
      ∙ sym (left e entries false (le-ltb cookie (cookie_of e) under))
