-- The time of a change rises with each change.
use Rattle.std.proofs.Common.{
  ◌≡◌,
  ◌==◌,
  suc,
  ◌+◌,
  ◌<◌,
  ◌≤◌,
  true,
  false,
  cond,
  nat_lt,
  ◌&&◌,
  ◌||◌,
  ◌⊎◌,
  inl,
  inr,
  refl,
  sym,
  ◌∙◌,
  ap,
  subst,
  arith,
}
use Rattle.std.proofs.Math.Bool.{or-true}
use Rattle.std.proofs.lemmas.Bool.{leb-true, le-leb, ltb-false}
use Rattle.std.specs.Cmp.{unsigned_Decides}
use Rattle.nfs_wire.specs.declared.attributes.Time.{Time}
use Rattle.nfs_machine.specs.TimeLaws.{TimesNeverFall, TimesRise}
use Rattle.nfs_machine.specs.Times.{is_earlier, next, touch}

abbrev pub Earlier : Time → Time → Type 0
Earlier a b = (a.seconds < b.seconds) ⊎ ((a.seconds ≡ b.seconds) × (a.nanoseconds < b.nanoseconds))

told : (a b : Time) → is_earlier a b ≡ true → Earlier a b
told a b is =
    elim (nat_lt a.seconds b.seconds) as (λ t. nat_lt a.seconds b.seconds ≡ t
    → (t || ((a.seconds == b.seconds) && nat_lt a.nanoseconds b.nanoseconds)) ≡ true → Earlier a b) [
      | true ↦ λ less h. inl (leb-true (suc a.seconds) b.seconds less)
      | false ↦ λ less h. elim (a.seconds == b.seconds) as (λ t. (a.seconds == b.seconds) ≡ t
          → (t && nat_lt a.nanoseconds b.nanoseconds) ≡ true → Earlier a b) [
            | true ↦ λ same k. inr (
              (unsigned_Decides a.seconds b.seconds).0 same,
              leb-true (suc a.nanoseconds)
                  b.nanoseconds k,
            )
            | false ↦ λ same k. absurd cc
          ] refl h
    ] refl is

tells : (a b : Time) → Earlier a b → is_earlier a b ≡ true
tells a b (inl less) = ap (λ t. t || ((a.seconds == b.seconds) && nat_lt a.nanoseconds b.nanoseconds))
    (le-leb (suc a.seconds) b.seconds less)
tells a b (inr same) =
    ap (λ t. nat_lt a.seconds b.seconds || (t && nat_lt a.nanoseconds b.nanoseconds))
    ((unsigned_Decides a.seconds b.seconds).1 same.0)
    ∙ ap (λ t. nat_lt a.seconds b.seconds || t) (le-leb (suc a.nanoseconds) b.nanoseconds same.1)
    ∙ or-true (nat_lt a.seconds b.seconds)

after : (a b c : Time) → Earlier a b → Earlier b c → Earlier a c
after a b c (inl h) (inl k) = inl (omega (arith, h, k))
after a b c (inl h) (inr k) = inl (omega (arith, h, k.0))
after a b c (inr h) (inl k) = inl (omega (arith, h.0, k))
after a b c (inr h) (inr k) = inr (h.0 ∙ k.0, omega (arith, h.1, k.1))

apart : (a b : Time) → Earlier a b → Earlier b a → ⊥
apart a b (inl h) (inl k) = omega (arith, h, k)
apart a b (inl h) (inr k) = let same = k.0 in omega (arith, h, same)
apart a b (inr h) (inl k) = let same = h.0 in omega (arith, k, same)
apart a b (inr h) (inr k) = let x = h.1 in let y = k.1 in omega (arith, x, y)

itself : (a : Time) → Earlier a a → ⊥
itself a (inl h) = omega (arith, h)
itself a (inr h) = let x = h.1 in omega (arith, x)

-- later, or the greatest time itself
abbrev FollowsTime : Time → Time → Type 0
FollowsTime t u = Earlier t u ⊎ ((u ≡ t) × (4294967295 ≤ t.seconds) × (999999999 ≤ t.nanoseconds))

next-later : (t : Time) → FollowsTime t (next t)
next-later t =
    elim (nat_lt t.nanoseconds 999999999) as (λ b. nat_lt t.nanoseconds 999999999 ≡ b
    → FollowsTime t (cond b later second)) [
      | true ↦ λ is. inl (inr (refl, omega arith))
      | false ↦ λ is. elim (nat_lt t.seconds 4294967295) as (λ b. nat_lt t.seconds 4294967295 ≡ b
          → FollowsTime t (cond b (record { seconds = t.seconds + 1; nanoseconds = 0 }) t)) [
            | true ↦ λ below. inl (inl (omega arith))
            | false ↦ λ below. inr (refl, ltb-false t.seconds 4294967295 below, ltb-false t.nanoseconds 999999999 is)
          ] refl
    ] refl
  where
    later : Time
    later = record { seconds = t.seconds; nanoseconds = t.nanoseconds + 1 }

    second : Time
    second = cond (nat_lt t.seconds 4294967295) (record { seconds = t.seconds + 1; nanoseconds = 0 }) t

touched : (changed now : Time) → FollowsTime changed (touch changed now)
touched changed now =
    elim (is_earlier (next changed) now) as (λ b. is_earlier (next changed) now ≡ b
    → FollowsTime changed (cond b now (next changed))) [
      | true ↦ λ is. elim (next-later changed) [
        | inl later ↦ inl (after changed (next changed) now later (told (next changed) now is))
        | inr greatest ↦ inl (subst (λ (t : Time). Earlier t now) greatest.0 (told (next changed) now is))
      ]
      | false ↦ λ is. next-later changed
    ] refl

-- later, or the same time
abbrev pub Later : Time → Time → Type 0
Later a b = Earlier a b ⊎ (b ≡ a)

pub touched-later : (changed now : Time) → Later changed (touch changed now)
touched-later changed now = elim (touched changed now) [ inl later ↦ inl later | inr same ↦ inr same.0 ]

pub later-later : (a b c : Time) → Later a b → Later b c → Later a c
later-later a b c (inl h) (inl k) = inl (after a b c h k)
later-later a b c (inl h) (inr k) = inl (subst (Earlier a) (sym k) h)
later-later a b c (inr h) k = subst (λ (t : Time). Later t c) h k

pub later-not_earlier : (a b : Time) → Later a b → is_earlier b a ≡ false
later-not_earlier a b is_later =
    elim (is_earlier b a) as (λ t. is_earlier b a ≡ t → t ≡ false) [
      | true ↦ λ is. elim is_later [
        | inl later ↦ absurd (apart a b later (told b a is))
        | inr same ↦ absurd (itself a (subst (λ (t : Time). Earlier t a) same (told b a is)))
      ]
      | false ↦ λ is. refl
    ] refl

pub never_fall : TimesNeverFall
never_fall changed now = later-not_earlier changed (touch changed now) (touched-later changed now)

pub rise : TimesRise
rise changed now below =
    elim (touched changed now) [
      | inl later ↦ tells changed (touch changed now) later
      | inr same ↦ absurd (elim below [
        | inl s ↦ (let top = same.1 in omega (arith, s, top))
        | inr n ↦ (let top = same.2 in omega (arith, n, top))
      ])
    ]
