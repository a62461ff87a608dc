-- Parts of a bucket by linear hashing: the part of a name is one of them, and with one part more only names of one part
-- have another, which is the new one.
use Rattle.std.proofs.Common.{◌≡◌, ◌⊎◌, ℕ, zero, suc, ◌+◌, ◌-◌, ◌*◌, ◌/◌, ◌%◌, ◌^◌, ◌<◌, ◌≤◌, cond, arith, refl}
use Rattle.std.proofs.Common.{inl, inr, sym, ◌∙◌, ap, subst, pow-suc, mod-lt, Bool, true, false, ◌&&◌, ◌||◌, ◌==◌, List}
use Rattle.std.specs.Prelude.{nat_lt}
use Rattle.std.specs.Int.{leading_zeros, w32}
use Rattle.std.proofs.lemmas.Bool.{and_parts, and_right, cases_eq, cases_order, cond-false, cond-true, cond_both}
use Rattle.std.proofs.lemmas.Bool.{eq-eqb}
use Rattle.std.proofs.lemmas.Bool.{eqb-true, le-ltb, lt-ltb, ltb-true, ne_eqb, or_left, or_right}
use Rattle.std.proofs.lemmas.Nat.{leading_top, pow_pos}
use lib.Arith.{mod-mul}
use lib.Count.{count_leading_zeros, leading_unique}
use Rattle.nfs_objects.specs.Directories.{bucket_of, digest, is_in_part, part_among, part_hashed, source_of, top_of}

-- ---- a place among a power of two and twice of it
abbrev placed : (top width hash : ℕ) → ℕ
placed top width hash = cond (nat_lt (hash % (top * 2)) width) (hash % (top * 2)) (hash % top)

placed-below : (top width hash : ℕ) → 0 < top → top ≤ width → placed top width hash < width
placed-below top width hash some within =
    cond_both (nat_lt (hash % (top * 2)) width) (hash % (top * 2)) (hash % top) (λ x. x < width)
    (λ is. ltb-true (hash % (top * 2)) width is) (λ is. omega (arith, mod-lt hash some, within))

-- twice the power, and the power
module _ (top hash : ℕ) (some : 0 < top) where
  half : hash % (top * 2) ≡ (hash / top % 2) * top + hash % top
  half = ap (λ m. hash % m) (omega arith) ∙ mod-mul hash {m = 2} {c = top} (omega arith) some

  upper : (bit place : ℕ) → bit < 2 → top ≤ place → place ≡ bit * top + hash % top → hash % top ≡ place - top
  upper zero place small high is = absurd (omega (arith, high, is, mod-lt hash some))
  upper (suc zero) place small high is = omega (arith, is)
  upper (suc (suc bit)) place small high is = absurd (omega (arith, small))

  placed-more : (width : ℕ) → top ≤ width → (placed top (suc width) hash ≡ placed top width hash) ⊎
      ((placed top width hash ≡ width - top) × (placed top (suc width) hash ≡ width))
  placed-more width within = by (cases_order (hash % (top * 2)) width)
    where
      place : ℕ
      place = hash % (top * 2)

      by : (place ≡ width) ⊎ ((place < width) ⊎ (width < place)) →
          (placed top (suc width) hash ≡ placed top width hash) ⊎
          ((placed top width hash ≡ width - top) × (placed top (suc width) hash ≡ width))
      by (inl same) = inr (
        cond-false (nat_lt place width) place (hash % top) (le-ltb place width (omega (arith, same)))
            ∙ upper (hash / top % 2) width (mod-lt (hash / top) (omega arith)) within (sym same ∙ half),
        cond-true (nat_lt place (suc width)) place (hash % top) (lt-ltb place (suc width) (omega (arith, same))) ∙ same,
      )
      by (inr (inl less)) = inl (
          cond-true (nat_lt place (suc width)) place (hash % top) (lt-ltb place (suc width) (omega (arith, less)))
          ∙ sym (cond-true (nat_lt place width) place (hash % top) (lt-ltb place width less))
          )
      by (inr (inr more)) = inl (
          cond-false (nat_lt place (suc width)) place (hash % top) (le-ltb place (suc width) (omega (arith, more)))
          ∙ sym (cond-false (nat_lt place width) place (hash % top) (le-ltb place width (omega (arith, more))))
          )

  -- with a width of twice the power, both are the place among that
  placed-twice : (width : ℕ) → suc width ≡ top * 2 → placed (top * 2) (suc width) hash ≡ placed top (suc width) hash
  placed-twice width twice =
      let place = hash % (top * 2) in
      let wide = hash % (top * 2 * 2) in
      let low : place < suc width = subst (λ x. place < x) (sym twice) (mod-lt hash (omega (arith, some))) in
      cond_both (nat_lt wide (suc width)) wide place (λ x. x ≡ place)
      (λ is. small (hash / (top * 2) % 2) wide (subst (λ x. wide < x) twice (ltb-true wide (suc width) is))
      (ap (λ m. hash % m) (omega arith) ∙ mod-mul hash {m = 2} {c = top * 2} (omega arith) (omega (arith, some))))
      (λ is. refl)
      ∙ sym (cond-true (nat_lt place (suc width)) place (hash % top) (lt-ltb place (suc width) low))
    where
      small : (bit wide : ℕ) → wide < top * 2 → wide ≡ bit * (top * 2) + hash % (top * 2) → wide ≡ hash % (top * 2)
      small zero wide less is = omega (arith, is)
      small (suc bit) wide less is = absurd (omega (arith, less, is))

-- ---- the greatest power of two up to a width
pub top-is : (width : ℕ) → 0 < width → width < 2 ^ 32 →
    (j : ℕ) × (top_of width ≡ 2 ^ j) × (2 ^ j ≤ width) × (width < 2 ^ j * 2) × (leading_zeros w32 width + suc j ≡ 32)
top-is width some small =
    let t = leading_top 32 width some small in
    let same : 31 - leading_zeros w32 width ≡ t.0 = omega (arith, t.1) in
    (t.0, ap (λ k. 2 ^ k) same, t.2, subst (λ x. width < x) (pow-suc 2 t.0) t.3, t.1)

pub top-some : (width : ℕ) → 0 < width → width < 2 ^ 32 → 0 < top_of width
top-some width some small =
    let t = top-is width some small in subst (λ x. 0 < x) (sym t.1) (pow_pos t.0)

pub top-within : (width : ℕ) → 0 < width → width < 2 ^ 32 → top_of width ≤ width
top-within width some small =
    let t = top-is width some small in subst (λ x. x ≤ width) (sym t.1) t.2

-- with one part more it is the same, or twice of it, where that is the width
top-more : (width : ℕ) → 0 < width → suc width < 2 ^ 31 → (top_of (suc width) ≡ top_of width) ⊎
    ((top_of (suc width) ≡ top_of width * 2) × (suc width ≡ top_of width * 2))
top-more width some small = by (cases_order (suc width) (2 ^ j * 2))
  where
    t : (j : ℕ) × (top_of width ≡ 2 ^ j) × (2 ^ j ≤ width) × (width < 2 ^ j * 2)
        × (leading_zeros w32 width + suc j ≡ 32)
    t = top-is width some (omega (arith, small))

    j : ℕ
    j = t.0

    -- the power is known by its bounds
    unique : (m : ℕ) → suc m ≤ 32 → 2 ^ m ≤ suc width → suc width < 2 ^ m * 2 → top_of (suc width) ≡ 2 ^ m
    unique m few least most =
        let zeros = leading_unique 32 (suc width) (32 - suc m) (suc m) (omega (arith, few))
        (subst (λ x. suc width < x) (sym (pow-suc 2 m)) most)
        (subst (λ x. x ≤ 2 * suc width + 1) (sym (pow-suc 2 m)) (omega (arith, least))) in
        ap (λ k. 2 ^ k) (ap (λ z. 31 - z) (sym zeros) ∙ omega (arith, few))

    by : (suc width ≡ 2 ^ j * 2) ⊎ ((suc width < 2 ^ j * 2) ⊎ (2 ^ j * 2 < suc width)) →
        (top_of (suc width) ≡ top_of width) ⊎
        ((top_of (suc width) ≡ top_of width * 2) × (suc width ≡ top_of width * 2))
    by (inl same) = inr (
      unique (suc j) (few (cases_order j 31)) (subst (λ x. x ≤ suc width) (sym (pow-suc 2 j)) (omega (arith, same)))
          (subst (λ x. suc width < x * 2) (sym (pow-suc 2 j)) (omega (arith, same, t.2)))
          ∙ pow-suc 2 j ∙ ap (λ x. x * 2) (sym t.1),
      same ∙ ap (λ x. x * 2) (sym t.1),
    )
      where
        few : (j ≡ 31) ⊎ ((j < 31) ⊎ (31 < j)) → suc (suc j) ≤ 32
        few (inl last) = absurd (let least : 2 ^ 31 ≤ width = subst (λ k. 2 ^ k ≤ width) last t.2 in omega
            (arith, least, small))
        few (inr (inl less)) = omega (arith, less)
        few (inr (inr more)) = absurd (omega (arith, more, t.4))
    by (inr (inl less)) = inl (unique j (omega (arith, t.4)) (omega (arith, t.2)) less ∙ sym t.1)
    by (inr (inr more)) = absurd (omega (arith, more, t.3))

-- ---- parts
pub part-below : (width hash : ℕ) → 0 < width → width < 2 ^ 32 → part_hashed width hash < width
part-below width hash some small =
    placed-below (top_of width) width hash (top-some width some small) (top-within width some small)

-- a bucket of one part has all its names there
pub part-first : (width hash : ℕ) → width < 2 → part_hashed width hash ≡ 0
unfolding count_leading_zeros
part-first zero hash less =
    let none : hash % 1 ≡ 0 = omega arith in
    cond-false (nat_lt (hash % (top_of 0 * 2)) 0) (hash % (top_of 0 * 2)) (hash % top_of 0)
    (le-ltb (hash % (top_of 0 * 2)) 0 (omega arith)) ∙ none
part-first (suc zero) hash less = let below = part-below 1 hash (omega arith) (omega arith) in omega (arith, below)
part-first (suc (suc width)) hash less = absurd (omega (arith, less))

pub part-more : (width hash : ℕ) → 0 < width → suc width < 2 ^ 31 →
    (part_hashed (suc width) hash ≡ part_hashed width hash) ⊎
    ((part_hashed width hash ≡ source_of width) × (part_hashed (suc width) hash ≡ width))
part-more width hash some small = by (top-more width some small)
  where
    wide : 0 < top_of width
    wide = top-some width some (omega (arith, small))

    more : (placed (top_of width) (suc width) hash ≡ part_hashed width hash) ⊎
        ((part_hashed width hash ≡ source_of width) × (placed (top_of width) (suc width) hash ≡ width))
    more = placed-more (top_of width) hash wide width (top-within width some (omega (arith, small)))

    through : part_hashed (suc width) hash ≡ placed (top_of width) (suc width) hash →
        (part_hashed (suc width) hash ≡ part_hashed width hash) ⊎
        ((part_hashed width hash ≡ source_of width) × (part_hashed (suc width) hash ≡ width))
    through same = elim more [ inl stays ↦ inl (same ∙ stays) | inr moves ↦ inr (moves.0, same ∙ moves.1) ]

    by : (top_of (suc width) ≡ top_of width) ⊎
        ((top_of (suc width) ≡ top_of width * 2) × (suc width ≡ top_of width * 2)) →
        (part_hashed (suc width) hash ≡ part_hashed width hash) ⊎
        ((part_hashed width hash ≡ source_of width) × (part_hashed (suc width) hash ≡ width))
    by (inl same) = through (ap (λ top. placed top (suc width) hash) same)
    by (inr twice) = through (ap (λ top. placed top (suc width) hash) twice.0
        ∙ placed-twice (top_of width) hash wide width twice.1)

-- ---- names
-- a bucket gets one part more
module _ (key : List ℕ) (width bucket : ℕ) (name : List ℕ) (some : 0 < width) (small : suc width < 2 ^ 31) where
  abbrev before : ℕ
  before = part_among key width name

  abbrev after : ℕ
  after = part_among key (suc width) name

  abbrev source : ℕ
  source = source_of width

  within : before < width
  within = part-below width (digest key name) some (omega (arith, small))

  below : source < width
  below = omega (
    arith,
    some,
    top-some width some (omega (arith, small)),
    top-within width some (omega (arith, small)),
  )

  moves : (after ≡ before) ⊎ ((before ≡ source) × (after ≡ width))
  moves = part-more width (digest key name) some small

  -- in the new part are names of the one that divides
  pub in-new : is_in_part key (suc width) bucket width name ≡
      (is_in_part key width bucket source name && (after == width))
  in-new = elim (bucket_of name == bucket) as
      (λ b. (b && (nat_lt width (suc width) && (after == width)))
      ≡ ((b && (nat_lt source width && (before == source))) && (after == width))) [
        | false ↦ refl
        | true ↦
            ap (λ t. t && (after == width)) (lt-ltb width (suc width) (omega arith)) ∙ by moves
            ∙ ap (λ t. (t && (before == source)) && (after == width)) (sym (lt-ltb source width below))
      ]
    where
      by : (after ≡ before) ⊎ ((before ≡ source) × (after ≡ width)) →
          (after == width) ≡ ((before == source) && (after == width))
      by (inl stays) =
          let none : (after == width) ≡ false = ne_eqb after width (λ is. omega (arith, is, stays, within)) in
          none ∙ sym (and_right (before == source) (after == width) none)
      by (inr moved) = sym (ap (λ t. t && (after == width)) (eq-eqb before source moved.0))

  -- and the others of them stay
  pub in-source : is_in_part key (suc width) bucket source name
      ≡ (is_in_part key width bucket source name && (after == source))
  in-source = elim (bucket_of name == bucket) as
      (λ b. (b && (nat_lt source (suc width) && (after == source)))
      ≡ ((b && (nat_lt source width && (before == source))) && (after == source))) [
        | false ↦ refl
        | true ↦
            ap (λ t. t && (after == source)) (lt-ltb source (suc width) (omega (arith, below))) ∙ by moves
            ∙ ap (λ t. (t && (before == source)) && (after == source)) (sym (lt-ltb source width below))
      ]
    where
      by : (after ≡ before) ⊎ ((before ≡ source) × (after ≡ width)) →
          (after == source) ≡ ((before == source) && (after == source))
      by (inl stays) =
          ap (λ n. n == source) stays
          ∙ elim (before == source) as (λ t. t ≡ (t && t)) [ true ↦ refl | false ↦ refl ]
          ∙ ap (λ n. (before == source) && (n == source)) (sym stays)
      by (inr moved) =
          let none : (after == source) ≡ false = ne_eqb after source (λ is. omega (arith, is, moved.1, below)) in
          none ∙ sym (and_right (before == source) (after == source) none)

  -- in other parts are the names that were there
  pub in-other : (part : ℕ) → (part ≡ width → ⊥) → (part ≡ source → ⊥) →
      is_in_part key (suc width) bucket part name ≡ is_in_part key width bucket part name
  in-other part last first = ap (λ t. (bucket_of name == bucket) && t)
      (ap (λ t. t && (after == part)) (order (cases_order part width)) ∙ ap (λ t. nat_lt part width && t) (by moves))
    where
      order : (part ≡ width) ⊎ ((part < width) ⊎ (width < part)) → nat_lt part (suc width) ≡ nat_lt part width
      order (inl same) = absurd (last same)
      order (inr (inl less)) = lt-ltb part (suc width) (omega (arith, less)) ∙ sym (lt-ltb part width less)
      order (inr (inr more)) =
          le-ltb part (suc width) (omega (arith, more)) ∙ sym (le-ltb part width (omega (arith, more)))

      by : (after ≡ before) ⊎ ((before ≡ source) × (after ≡ width)) → (after == part) ≡ (before == part)
      by (inl stays) = ap (λ n. n == part) stays
      by (inr moved) =
          ne_eqb after part (λ is. last (sym is ∙ moved.1)) ∙ sym (ne_eqb before part (λ is. first (sym is ∙ moved.0)))

  -- names of the part that divides are in it then, or in the new one
  pub in-either : is_in_part key width bucket source name ≡ true → ((after == source) || (after == width)) ≡ true
  in-either there = by moves
    where
      here : before ≡ source
      here = eqb-true before source
          (and_parts (nat_lt source width) (before == source)
          (and_parts (bucket_of name == bucket) (nat_lt source width && (before == source)) there).1).1

      by : (after ≡ before) ⊎ ((before ≡ source) × (after ≡ width)) → ((after == source) || (after == width)) ≡ true
      by (inl stays) = or_left (after == source) (after == width) (eq-eqb after source (stays ∙ here))
      by (inr moved) = or_right (after == source) (after == width) (eq-eqb after width moved.1)

  -- and not in both
  pub in-one : ((after == source) ≡ false) ⊎ ((after == width) ≡ false)
  in-one = elim (cases_eq after source) [
    | inl same ↦ inr (ne_eqb after width (λ is. omega (arith, is, same, below)))
    | inr other ↦ inl (ne_eqb after source other)
  ]

-- the part that divides is one of those before
pub source-below : (width : ℕ) → 0 < width → suc width < 2 ^ 31 → source_of width < width
source-below width some small = omega (
  arith,
  some,
  top-some width some (omega (arith, small)),
  top-within width some (omega (arith, small)),
)
