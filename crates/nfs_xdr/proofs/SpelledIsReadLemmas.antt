-- What a front spells is read, whatever stands behind it: each item begins with its own bytes and says by itself where
-- it ends, and padding is counted and not looked at.
use Rattle.std.proofs.Common.{◌≡◌, ℕ, zero, suc, ◌+◌, ◌^◌, ◌<◌, Bool, true, false, ltb, List, [], ◌∷◌, ◌++◌, length}
use Rattle.std.proofs.Common.{take, drop, Some, None, Result, Ok, refl, ap, ◌∙◌, append_assoc, arith}
use Rattle.std.specs.Int.{w32, w64, to_be_bytes, cast_signed, cast_unsigned}
use Rattle.std.proofs.Math.Facts.{Fits-of_z, Fits-lt-pow}
use Rattle.std.proofs.lemmas.Int.{to_z-of_z}
use Rattle.std.proofs.lemmas.Bool.{le-ltb}
use Rattle.std.proofs.lemmas.List.{take_at, drop_at, length-append}
use Rattle.nfs_xdr.specs.declared.XdrError.{XdrError}
use Rattle.nfs_xdr.specs.Types.{Xdr, Void, Word, Int, Hyper, Flag, Enum, Fixed, Opaque, Pair, Array, Optional, Entries}
use Rattle.nfs_xdr.specs.Types.{Union, Value, padding, flag_number, IsPadded, SpellsAll, SpellsEntries, SpellsBy}
use Rattle.nfs_xdr.specs.Reading.{◌>>=◌, number_at, flag_of, bytes_at, read_all, read_entries, arm_of, read}
use Rattle.nfs_xdr.proofs.NumberBytesLemmas.{wide64, number_again, word_again}

-- the reader reads what is spelled
abbrev Reads : {A : Type 0} → (List ℕ → Result (A × List ℕ) XdrError) → (A → List ℕ → Type 0) → Type 0
Reads {A} reads spells = (v : A) (front rest : List ℕ) → spells v front → reads (front ++ rest) ≡ Ok (v, rest)

-- ---- the word at the front

word_first : (n : ℕ) (front back rest : List ℕ) → n < 2 ^ 32 → front ≡ to_be_bytes w32 n ++ back
    → number_at w32 (front ++ rest) ≡ Ok (n, back ++ rest)
word_first n front back rest lt e =
    let regrouped : front ++ rest ≡ to_be_bytes w32 n ++ (back ++ rest) = ap (λ (b : List ℕ). b ++ rest) e
    ∙ append_assoc (to_be_bytes w32 n) back rest in
    ap (λ (b : List ℕ). number_at w32 b) regrouped ∙ word_again n (back ++ rest) lt

word_alone : (n : ℕ) (front rest : List ℕ) → n < 2 ^ 32 → front ≡ to_be_bytes w32 n
    → number_at w32 (front ++ rest) ≡ Ok (n, rest)
word_alone n front rest lt e = ap (λ (b : List ℕ). number_at w32 (b ++ rest)) e ∙ word_again n rest lt

flag_first : (b : Bool) (front back rest : List ℕ) → front ≡ to_be_bytes w32 (flag_number b) ++ back
    → (number_at w32 (front ++ rest) >>= flag_of) ≡ Ok (b, back ++ rest)
flag_first true front back rest e = ap (λ (r : Result (ℕ × List ℕ) XdrError). r >>= flag_of)
    (word_first 1 front back rest (omega arith) e)
flag_first false front back rest e = ap (λ (r : Result (ℕ × List ℕ) XdrError). r >>= flag_of)
    (word_first 0 front back rest (omega arith) e)

flag_alone : (b : Bool) (front rest : List ℕ) → front ≡ to_be_bytes w32 (flag_number b)
    → (number_at w32 (front ++ rest) >>= flag_of) ≡ Ok (b, rest)
flag_alone true front rest e = ap (λ (r : Result (ℕ × List ℕ) XdrError). r >>= flag_of)
    (word_alone 1 front rest (omega arith) e)
flag_alone false front rest e = ap (λ (r : Result (ℕ × List ℕ) XdrError). r >>= flag_of)
    (word_alone 0 front rest (omega arith) e)

-- ---- padded bytes

padded_again : (pads : List ℕ → Type 0) (size : ℕ) (value front rest : List ℕ) → length value ≡ size
    → IsPadded pads value front → bytes_at size (front ++ rest) ≡ Ok (value, rest)
padded_again pads size value front rest len p =
    let pad-len : length p.pad ≡ padding size = p.enough ∙ ap (λ (k : ℕ). padding k) len in
    let regrouped : front ++ rest ≡ value ++ (p.pad ++ rest) = ap (λ (b : List ℕ). b ++ rest) p.whole
    ∙ append_assoc value p.pad rest in
    let both : front ++ rest ≡ (value ++ p.pad) ++ rest = ap (λ (b : List ℕ). b ++ rest) p.whole in
    let both-len : length (value ++ p.pad) ≡ size + padding size = length-append value p.pad ∙ omega arith in
    let long : ltb (length (front ++ rest)) (size + padding size) ≡ false = le-ltb _ _
    (omega (arith, ap (λ (b : List ℕ). length b) both, length-append (value ++ p.pad) rest)) in
    let taken : take size (front ++ rest) ≡ value = ap (λ (b : List ℕ). take size b) regrouped
    ∙ take_at value (p.pad ++ rest) size len in
    let dropped : drop (size + padding size) (front ++ rest) ≡ rest = ap (λ (b : List ℕ). drop (size + padding size) b)
    both ∙ drop_at (value ++ p.pad) rest (size + padding size) both-len in
    rw (long, taken, dropped) refl

opaque_again : (pads : List ℕ → Type 0) (max : ℕ) → Reads (read (Opaque max)) (SpellsBy pads (Opaque max))
unfolding read
opaque_again pads max v front rest s =
    let bound : ltb max (length v) ≡ false = le-ltb _ _ s.0 in
    rw (word_first (length v) front s.2.0 rest s.1 s.2.1, bound) (padded_again pads (length v) v s.2.0 rest refl s.2.2)

-- ---- items made of items

module _ {A : Type 0} (reads : List ℕ → Result (A × List ℕ) XdrError) (spells : A → List ℕ
    → Type 0) (again : (v : A) (front rest : List ℕ) → spells v front → reads (front ++ rest) ≡ Ok (v, rest)) where
  -- two fronts, one behind the other
  first_again : (v : A) (bytes front back rest : List ℕ) → bytes ≡ front ++ back → spells v front
      → reads (bytes ++ rest) ≡ Ok (v, back ++ rest)
  first_again v bytes front back rest e s =
      let regrouped : bytes ++ rest ≡ front ++ (back ++ rest) = ap (λ (b : List ℕ). b ++ rest) e
      ∙ append_assoc front back rest in
      ap (λ (b : List ℕ). reads b) regrouped ∙ again v front (back ++ rest) s

  all_again : (vs : List A) (front rest : List ℕ) → SpellsAll spells vs front
      → read_all reads (length vs) (front ++ rest) ≡ Ok (vs, rest)
  unfolding read_all
  all_again [] front rest s = ap (λ (b : List ℕ). read_all reads 0 (b ++ rest)) s
  all_again (v ∷ vs) front rest s =
      rw (first_again v front s.0 s.1 rest s.2 s.3, all_again vs s.1 rest s.4) refl

  entries_length : (vs : List A) (front : List ℕ) → SpellsEntries spells vs front → length vs < length front
  entries_length [] front s = omega (arith, ap (λ (b : List ℕ). length b) s)
  entries_length (v ∷ vs) front s =
      omega (arith, ap (λ (b : List ℕ). length b) s.2, length-append s.0 s.1, entries_length vs s.1 s.4)

  entries_again : (vs : List A) (n : ℕ) (front rest : List ℕ) → length vs < n → SpellsEntries spells vs front
      → read_entries reads n (front ++ rest) ≡ Ok (vs, rest)
  unfolding read_entries
  entries_again vs zero front rest lt s = absurd (omega arith)
  entries_again [] (suc n) front rest lt s = rw (flag_alone false front rest s) refl
  entries_again (v ∷ vs) (suc n) front rest lt s =
      let fewer : length vs < n = omega arith in
      let flag = flag_first true front (s.0 ++ s.1) rest s.2 in
      let first = first_again v (s.0 ++ s.1) s.0 s.1 rest refl s.3 in
      rw (flag, first, entries_again vs n s.1 rest fewer s.4) refl

-- What a front spells is read, whatever stands behind it.
pub again : (pads : List ℕ → Type 0) (t : Xdr) (v : Value t) (front rest : List ℕ) → SpellsBy pads t v front
    → read t (front ++ rest) ≡ Ok (v, rest)
unfolding read arm_of
again pads Void v front rest s = ap (λ (b : List ℕ). read Void (b ++ rest)) s
again pads Word v front rest s = word_alone v front rest s.0 s.1
again pads Int v front rest s =
    let back : cast_signed w32 (cast_unsigned w32 v) ≡ v = to_z-of_z w32 v s.0 in
    let below : cast_unsigned w32 v < 2 ^ 32 = Fits-lt-pow (Fits-of_z s.0) in
    rw (word_alone (cast_unsigned w32 v) front rest below s.1, back) refl
again pads Hyper v front rest s = ap (λ (b : List ℕ). number_at w64 (b ++ rest)) s.1
    ∙ number_again w64 (2 ^ 64) wide64 v rest s.0
again pads Flag v front rest s = flag_alone v front rest s
again pads (Enum known) v front rest s = rw (word_alone v front rest s.0 s.2, s.1) refl
again pads (Fixed size) v front rest s = padded_again pads size v front rest s.0 s.1
again pads (Opaque max) v front rest s = opaque_again pads max v front rest s
again pads (Pair a b) v front rest s =
    rw (
      first_again (read a) (SpellsBy pads a) (again pads a) v.0 front s.0 s.1 rest s.2 s.3,
      again pads b v.1 s.1 rest
          s.4,
    ) refl
again pads (Array max a) vs front rest s =
    let bound : ltb max (length vs) ≡ false = le-ltb _ _ s.0 in
    rw (word_first (length vs) front s.2.0 rest s.1 s.2.1, bound) (all_again (read a) (SpellsBy pads a) (again pads a)
    vs s.2.0 rest s.2.2)
again pads (Optional a) None front rest s = rw (flag_alone false front rest s) refl
again pads (Optional a) (Some v) front rest s = rw (
  flag_first true front s.0 rest s.1,
  again pads a v s.0 rest
      s.2,
) refl
again pads (Entries a) vs front rest s =
    let many : length vs < length (front ++ rest) = omega (
      arith,
      entries_length (read a) (SpellsBy pads a)
          (again pads a) vs front s,
      length-append front rest,
    ) in
    entries_again (read a) (SpellsBy pads a) (again pads a) vs (length (front ++ rest)) front rest many s
again pads (Union known arm) v front rest s =
    rw (word_first v.0 front s.2.0 rest s.0 s.2.1, s.1, again pads (arm v.0) v.1 s.2.0 rest s.2.2) refl
