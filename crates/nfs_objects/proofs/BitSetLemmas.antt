-- Sets of bits with one number more.
use Rattle.std.proofs.Common.{◌≡◌, ◌≢◌, ◌==◌, ◌&&◌, ◌||◌, ℕ, ◌<◌, ◌+◌, ◌*◌, ◌/◌, ◌%◌, ◌^◌, Bool, true, false, nat_lt}
use Rattle.std.proofs.Common.{List, length, replicate, suc, zero, slice_index_or, slice_set, bit_or, refl, sym, ap, ◌∙◌}
use Rattle.std.proofs.Common.{subst, arith, not}
use Rattle.std.proofs.Math.Bool.{or-false}
use Rattle.std.proofs.Math.Nat.{div-eq_of_lt-le, pow-suc}
use Rattle.std.proofs.lemmas.Nat.{leading_top, one_shl}
use Rattle.std.proofs.lemmas.Bool.{and_from, and_parts, cases_eq, cases_lt, eq-eqb, lt-ltb, ltb-false, ltb-true}
use Rattle.std.proofs.Common.{cond, min, bit_and, [], ◌∷◌, ◌-◌, ◌≤◌, inl, inr}
use Rattle.std.proofs.lemmas.List.{get_or-set_other, get_or-set_same}
use Rattle.std.proofs.lemmas.Nat.Bits.{bit_at-lt, bit_at-zero, bit_at_above, bit_at_and, bit_at_ones, bit_at_ones_above}
use Rattle.std.proofs.lemmas.Nat.Bits.{bit_at_clear_other, bit_at_clear_same, bit_at_set_other, bit_at_set_same}
use Rattle.std.specs.Cmp.{unsigned_Decides}
use Rattle.std.specs.Int.{bit_at, bit_not, leading_zeros, w64}
use Rattle.nfs_objects.specs.Bits.{IsEnd, IsMask, IsWordBelow, has, no_bits}
use Rattle.nfs_objects.specs.declared.bits.Bits.{Bits}

module _ (words : List ℕ) (m : ℕ) (within : m < 512) (eight : length words ≡ 8) where
  abbrev word : ℕ
  word = slice_index_or words (m / 64) 0

  abbrev set : ℕ
  set = bit_or word (1 * 2 ^ (m % 64) % 2 ^ 64)

  abbrev after : List ℕ
  after = slice_set words (m / 64) set

  abbrev bits : List ℕ → Bits
  bits ws = record { words = ws }

  -- the bit of a number after it
  bit-after : (n : ℕ) → (n == m) ≡ false → bit_at (slice_index_or after (n / 64) 0) (n % 64) ≡
      bit_at (slice_index_or words (n / 64) 0) (n % 64)
  bit-after n other = by (n / 64 == m / 64) refl
    where
      differs : n ≢ m
      differs e = absurd (let f = (unsigned_Decides n m).1 e in cc)

      by : (b : Bool) → (n / 64 == m / 64) ≡ b → bit_at (slice_index_or after (n / 64) 0) (n % 64) ≡
          bit_at (slice_index_or words (n / 64) 0) (n % 64)
      by true e =
          let same : n / 64 ≡ m / 64 = (unsigned_Decides (n / 64) (m / 64)).0 e in
          let place : n % 64 ≢ m % 64 = λ f. differs (omega (arith, same, f)) in
          ap (λ p. bit_at (slice_index_or after p 0) (n % 64)) same
          ∙ ap (λ w. bit_at w (n % 64)) (get_or-set_same words (m / 64) set 0 (omega (arith, within, eight)))
          ∙ bit_at_set_other w64 word (m % 64) (omega arith) (n % 64) place
          ∙ ap (λ p. bit_at (slice_index_or words p 0) (n % 64)) (sym same)
      by false e =
          let apart : n / 64 ≢ m / 64 = λ f. absurd (let g = (unsigned_Decides (n / 64) (m / 64)).1 f in cc) in
          ap (λ w. bit_at w (n % 64)) (get_or-set_other words (m / 64) (n / 64) set 0 apart)

  bit-set : bit_at (slice_index_or after (m / 64) 0) (m % 64) ≡ 1
  bit-set =
      ap (λ w. bit_at w (m % 64)) (get_or-set_same words (m / 64) set 0 (omega (arith, within, eight)))
      ∙ bit_at_set_same w64 word (m % 64) (omega arith)

  or_true : (b : Bool) → (b || true) ≡ true
  or_true true = refl
  or_true false = refl

  pub with-has : (n : ℕ) → has (bits after) n ≡ (has (bits words) n || (n == m))
  with-has n = by (n == m) refl
    where
      by : (b : Bool) → (n == m) ≡ b → has (bits after) n ≡ (has (bits words) n || b)
      by true e =
          let same : n ≡ m = (unsigned_Decides n m).0 e in
          subst (λ q. has (bits after) q ≡ (has (bits words) q || true)) (sym same)
          ((λ i. lt-ltb m 512 within i && (bit-set i == 1)) ∙ sym (or_true (has (bits words) m)))
      by false e = ap (λ b. nat_lt n 512 && (b == 1)) (bit-after n e) ∙ sym (or-false (has (bits words) n))

-- ---- one number less
module _ (words : List ℕ) (m : ℕ) (within : m < 512) (eight : length words ≡ 8) where
  abbrev old_word : ℕ
  old_word = slice_index_or words (m / 64) 0

  abbrev clear : ℕ
  clear = bit_and old_word (bit_not w64 (1 * 2 ^ (m % 64) % 2 ^ 64))

  abbrev rest : List ℕ
  rest = slice_set words (m / 64) clear

  bit-rest : (n : ℕ) → (m == n) ≡ false → bit_at (slice_index_or rest (n / 64) 0) (n % 64) ≡
      bit_at (slice_index_or words (n / 64) 0) (n % 64)
  bit-rest n other = by (n / 64 == m / 64) refl
    where
      differs : n ≢ m
      differs e = absurd (let f = (unsigned_Decides m n).1 (sym e) in cc)

      by : (b : Bool) → (n / 64 == m / 64) ≡ b → bit_at (slice_index_or rest (n / 64) 0) (n % 64) ≡
          bit_at (slice_index_or words (n / 64) 0) (n % 64)
      by true e =
          let same : n / 64 ≡ m / 64 = (unsigned_Decides (n / 64) (m / 64)).0 e in
          let place : n % 64 ≢ m % 64 = λ f. differs (omega (arith, same, f)) in
          ap (λ p. bit_at (slice_index_or rest p 0) (n % 64)) same
          ∙ ap (λ w. bit_at w (n % 64)) (get_or-set_same words (m / 64) clear 0 (omega (arith, within, eight)))
          ∙ bit_at_clear_other w64 old_word (m % 64) (omega arith) (n % 64) (omega arith) place
          ∙ ap (λ p. bit_at (slice_index_or words p 0) (n % 64)) (sym same)
      by false e =
          let apart : n / 64 ≢ m / 64 = λ f. absurd (let g = (unsigned_Decides (n / 64) (m / 64)).1 f in cc) in
          ap (λ w. bit_at w (n % 64)) (get_or-set_other words (m / 64) (n / 64) clear 0 apart)

  bit-clear : bit_at (slice_index_or rest (m / 64) 0) (m % 64) ≡ 0
  bit-clear =
      ap (λ w. bit_at w (m % 64)) (get_or-set_same words (m / 64) clear 0 (omega (arith, within, eight)))
      ∙ bit_at_clear_same w64 old_word (m % 64) (omega arith)

  and_off : (b : Bool) → (b && false) ≡ false
  and_off true = refl
  and_off false = refl

  and_on : (b : Bool) → (b && true) ≡ b
  and_on true = refl
  and_on false = refl

  pub without-has : (n : ℕ) → has (record { words = rest }) n ≡ (has (record { words = words }) n && not (m == n))
  without-has n = by (m == n) refl
    where
      by : (b : Bool) → (m == n) ≡ b →
          has (record { words = rest }) n ≡ (has (record { words = words }) n && not b)
      by true e =
          let same : m ≡ n = (unsigned_Decides m n).0 e in
          subst (λ q. has (record { words = rest }) q ≡ (has (record { words = words }) q && false)) same
          (ap (λ b. nat_lt m 512 && (b == 1)) bit-clear ∙ and_off (nat_lt m 512)
          ∙ sym (and_off (has (record { words = words }) m)))
      by false e = ap (λ b. nat_lt n 512 && (b == 1)) (bit-rest n e) ∙ sym (and_on (has (record { words = words }) n))

and_true : (b : Bool) → (b && true) ≡ b
and_true true = refl
and_true false = refl

and_false : (b : Bool) → (b && false) ≡ false
and_false true = refl
and_false false = refl

-- ---- the empty set
zero-words : (count i : ℕ) → slice_index_or {A = ℕ} (replicate count 0) i 0 ≡ 0
zero-words zero i = refl
zero-words (suc count) zero = refl
zero-words (suc count) (suc i) = zero-words count i

pub has-none : (n : ℕ) → has no_bits n ≡ false
has-none n =
    ap (λ w. nat_lt n 512 && (bit_at w (n % 64) == 1)) (zero-words 8 (n / 64))
    ∙ ap (λ b. nat_lt n 512 && (b == 1)) (bit_at-zero (n % 64)) ∙ and_false (nat_lt n 512)

-- ---- those below a number
pub mask-few : (count : ℕ) → count < 64 → IsMask count (2 ^ count - 1)
mask-few count few i within = by (nat_lt i count) refl
  where
    by : (b : Bool) → nat_lt i count ≡ b → bit_at (2 ^ count - 1) i ≡ cond b 1 0
    by true e = bit_at_ones count i (ltb-true i count e)
    by false e = bit_at_ones_above count i (ltb-false i count e)

-- as the code makes it
pub mask-made : (count : ℕ) → count < 64 → IsMask count (1 * 2 ^ count % 2 ^ 64 - 1)
mask-made count few = subst (λ m. IsMask count (m - 1)) (sym whole) (mask-few count few)
  where
    whole : 1 * 2 ^ count % 2 ^ 64 ≡ 2 ^ count
    whole = one_shl count 64 few

pub mask-all : (count : ℕ) → 64 ≤ count → IsMask count (2 ^ 64 - 1)
mask-all count many i within =
    bit_at_ones 64 i within ∙ ap (λ b. cond {A = ℕ} b 1 0) (sym (lt-ltb i count (omega (arith, many, within))))

pub masked : (words : List ℕ) (place number mask : ℕ) → IsMask (number - place * 64) mask →
    IsWordBelow words place number (bit_and (slice_index_or words place 0) mask)
masked words place number mask is i within =
    bit_at_and word mask i ∙ ap (min (bit_at word i)) (is i within)
    ∙ same (nat_lt i (number - place * 64)) (nat_lt (place * 64 + i) number) refl refl
  where
    word : ℕ
    word = slice_index_or words place 0

    bit : bit_at word i < 2
    bit = bit_at-lt word i

    same : (a b : Bool) → nat_lt i (number - place * 64) ≡ a → nat_lt (place * 64 + i) number ≡ b →
        min (bit_at word i) (cond a 1 0) ≡ cond b (bit_at word i) 0
    same true true x y = omega (arith, bit)
    same false false x y = omega arith
    same true false x y =
        let less = ltb-true i (number - place * 64) x in
        let more = ltb-false (place * 64 + i) number y in absurd (omega (arith, less, more))
    same false true x y =
        let more = ltb-false i (number - place * 64) x in
        let less = ltb-true (place * 64 + i) number y in absurd (omega (arith, less, more))

-- the one of eight at a place
pub at-place : (P : ℕ → ℕ → Type 0) (a b c d e f g h : ℕ) → P 0 a → P 1 b → P 2 c → P 3 d → P 4 e → P 5 f → P 6 g →
    P 7 h → (k : ℕ) → k < 8 → P k (slice_index_or (a ∷ b ∷ c ∷ d ∷ e ∷ f ∷ g ∷ h ∷ []) k 0)
at-place P a b c d e f g h p0 p1 p2 p3 p4 p5 p6 p7 zero within = p0
at-place P a b c d e f g h p0 p1 p2 p3 p4 p5 p6 p7 (suc zero) within = p1
at-place P a b c d e f g h p0 p1 p2 p3 p4 p5 p6 p7 (suc (suc zero)) within = p2
at-place P a b c d e f g h p0 p1 p2 p3 p4 p5 p6 p7 (suc (suc (suc zero))) within = p3
at-place P a b c d e f g h p0 p1 p2 p3 p4 p5 p6 p7 (suc (suc (suc (suc zero)))) within = p4
at-place P a b c d e f g h p0 p1 p2 p3 p4 p5 p6 p7 (suc (suc (suc (suc (suc zero))))) within = p5
at-place P a b c d e f g h p0 p1 p2 p3 p4 p5 p6 p7 (suc (suc (suc (suc (suc (suc zero)))))) within = p6
at-place P a b c d e f g h p0 p1 p2 p3 p4 p5 p6 p7 (suc (suc (suc (suc (suc (suc (suc zero))))))) within = p7
at-place P a b c d e f g h p0 p1 p2 p3 p4 p5 p6 p7 (suc (suc (suc (suc (suc (suc (suc (suc k)))))))) within =
    absurd (omega (arith, within))

pub below-has : (words : List ℕ) (number : ℕ) (left : List ℕ) →
    ((k : ℕ) → k < 8 → IsWordBelow words k number (slice_index_or left k 0)) → (n : ℕ) →
    has (record { words = left }) n ≡ (has (record { words = words }) n && nat_lt n number)
below-has words number left each n = by (nat_lt n 512) refl
  where
    by : (b : Bool) → nat_lt n 512 ≡ b → (b && (bit_at (slice_index_or left (n / 64) 0) (n % 64) == 1)) ≡
        ((b && (bit_at (slice_index_or words (n / 64) 0) (n % 64) == 1)) && nat_lt n number)
    by false e = refl
    by true e =
        let within = ltb-true n 512 e in
        let whole : n / 64 * 64 + n % 64 ≡ n = omega arith in
        ap (λ w. w == 1) (each (n / 64) (omega (arith, within)) (n % 64) (omega arith)
        ∙ ap (λ m. cond (nat_lt m number) (bit_at (slice_index_or words (n / 64) 0) (n % 64)) 0) whole)
        ∙ cut (nat_lt n number)
      where
        cut : (b : Bool) → (cond b (bit_at (slice_index_or words (n / 64) 0) (n % 64)) 0 == 1) ≡
            ((bit_at (slice_index_or words (n / 64) 0) (n % 64) == 1) && b)
        cut true = sym (and_true (bit_at (slice_index_or words (n / 64) 0) (n % 64) == 1))
        cut false = sym (and_false (bit_at (slice_index_or words (n / 64) 0) (n % 64) == 1))

-- ---- those in both of two sets
-- the word at a place has the bits of both
abbrev pub IsWordOf : (a b : List ℕ) → (place word : ℕ) → Type 0
IsWordOf a b place word = word ≡ bit_and (slice_index_or a place 0) (slice_index_or b place 0)

pub both-has : (a b both : List ℕ) → ((k : ℕ) → k < 8 → IsWordOf a b k (slice_index_or both k 0)) → (n : ℕ) →
    has (record { words = both }) n ≡ (has (record { words = a }) n && has (record { words = b }) n)
both-has a b both each n = by (nat_lt n 512) refl
  where
    x : ℕ
    x = bit_at (slice_index_or a (n / 64) 0) (n % 64)

    y : ℕ
    y = bit_at (slice_index_or b (n / 64) 0) (n % 64)

    by : (t : Bool) → nat_lt n 512 ≡ t → (t && (bit_at (slice_index_or both (n / 64) 0) (n % 64) == 1)) ≡
        ((t && (x == 1)) && (t && (y == 1)))
    by false e = refl
    by true e =
        let within = ltb-true n 512 e in
        ap (λ w. bit_at w (n % 64) == 1) (each (n / 64) (omega (arith, within)))
        ∙ ap (λ w. w == 1) (bit_at_and (slice_index_or a (n / 64) 0) (slice_index_or b (n / 64) 0) (n % 64))
        ∙ least x y (bit_at-lt (slice_index_or a (n / 64) 0) (n % 64)) (bit_at-lt (slice_index_or b (n / 64) 0)
        (n % 64))
      where
        least : (p q : ℕ) → p < 2 → q < 2 → (min p q == 1) ≡ ((p == 1) && (q == 1))
        least zero q small less = ap (λ m. m == 1) (let e : min 0 q ≡ 0 = omega arith in e)
        least (suc zero) zero small less = ap (λ m. m == 1) (let e : min 1 0 ≡ 0 = omega arith in e)
        least (suc zero) (suc zero) small less = ap (λ m. m == 1) (let e : min 1 1 ≡ 1 = omega arith in e)
        least (suc zero) (suc (suc q)) small less = absurd (omega (arith, less))
        least (suc (suc p)) q small less = absurd (omega (arith, small))

-- ---- the number behind the last one
-- the highest bit of a word
bit-top : (bits j : ℕ) → 2 ^ j ≤ bits → bits < 2 ^ suc j → bit_at bits j ≡ 1
bit-top bits j least most =
    let less : 1 * 2 ^ j ≤ bits = omega (arith, least) in
    let more : bits < (1 + 1) * 2 ^ j = omega (arith, most, pow-suc 2 j) in
    let one : bits / 2 ^ j ≡ 1 = div-eq_of_lt-le (2 ^ j) less more in
    ap (λ q. q % 2) one

-- the last word that is not 0 is at this place
module _ (words : List ℕ) (place : ℕ) (within : place < 8)
    (rest : (k : ℕ) → place < k → slice_index_or words k 0 ≡ 0) where
  abbrev last_word : ℕ
  last_word = slice_index_or words place 0

  -- and this is its highest bit
  module _ (j : ℕ) (small : j < 64) (least : 2 ^ j ≤ last_word) (most : last_word < 2 ^ suc j) where
    none-above : (n : ℕ) → place * 64 + j < n → bit_at (slice_index_or words (n / 64) 0) (n % 64) ≡ 0
    none-above n above = elim (cases_eq (n / 64) place) [
      | inl same ↦
          ap (λ p. bit_at (slice_index_or words p 0) (n % 64)) same
          ∙ bit_at_above last_word (suc j) (n % 64) most (omega (arith, same, above))
      | inr other ↦
          ap (λ w. bit_at w (n % 64)) (rest (n / 64) (omega (arith, other, above, small))) ∙ bit_at-zero (n % 64)
    ]

    has-top : has (record { words = words }) (place * 64 + j) ≡ true
    has-top =
        let at : (place * 64 + j) / 64 ≡ place = omega (arith, small) in
        let bit : (place * 64 + j) % 64 ≡ j = omega (arith, small) in
        let one : bit_at (slice_index_or words ((place * 64 + j) / 64) 0) ((place * 64 + j) % 64) ≡ 1 =
        ap (λ p. bit_at (slice_index_or words p 0) ((place * 64 + j) % 64)) at ∙ ap (bit_at last_word) bit
        ∙ bit-top last_word j least most in
        and_from (nat_lt (place * 64 + j) 512)
        (bit_at (slice_index_or words ((place * 64 + j) / 64) 0) ((place * 64 + j) % 64) == 1)
        (lt-ltb (place * 64 + j) 512 (omega (arith, within, small))) (eq-eqb _ 1 one)

    is-end : IsEnd (record { words = words }) (place * 64 + suc j)
    is-end = record {
      above = λ n there. elim (cases_lt (place * 64 + j) n) [
        | inl more ↦ absurd (let one = and_parts (nat_lt n 512)
            (bit_at (slice_index_or words (n / 64) 0) (n % 64) == 1) there in
            let set : bit_at (slice_index_or words (n / 64) 0) (n % 64) ≡ 1 = (unsigned_Decides _ 1).0 one.1 in
            let none = none-above n more in omega (arith, set, none))
        | inr below ↦ omega (arith, below)
      ];
      last = λ some. subst (λ n. has (record { words = words }) n ≡ true) (omega arith) has-top;
    }

  pub end-found : last_word ≢ 0 → last_word < 2 ^ 64 → (end : ℕ) →
      end ≡ place * 64 + (64 - leading_zeros w64 last_word) → (end ≤ 512) × IsEnd (record { words = words }) end
  end-found some fits end is = by (leading_top 64 last_word (omega (arith, some)) fits)
    where
      by : (j : ℕ) × (leading_zeros w64 last_word + suc j ≡ 64) × (2 ^ j ≤ last_word) × (last_word < 2 ^ suc j) →
          (end ≤ 512) × IsEnd (record { words = words }) end
      by (j, counted, least, most) =
          let whole : place * 64 + suc j ≡ end = omega (arith, is, counted) in
          let small : j < 64 = omega (arith, counted) in (
            omega (arith, whole, small, within),
            subst (IsEnd (record { words = words })) whole (is-end j small least most),
          )

-- the last number in both of two sets
module _ (a b both : Bits) (end : ℕ) (are : (n : ℕ) → has both n ≡ (has a n && has b n)) (ends : IsEnd both end) where
  pub none-both : end ≡ 0 → (n : ℕ) → (has a n && has b n) ≡ false
  none-both none n = by (has both n) refl
    where
      by : (t : Bool) → has both n ≡ t → (has a n && has b n) ≡ false
      by true there = absurd (let e = ends.above n there in omega (arith, e, none))
      by false absent = sym (are n) ∙ absent

  pub last-both : 0 < end → (has a (end - 1) && has b (end - 1)) ≡ true
  last-both some = sym (are (end - 1)) ∙ ends.last some
