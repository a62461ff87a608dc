-- What is read is spelled by the bytes that it took. A word is read from its own bytes alone, so each item is; the rest
-- is joining fronts.
use Rattle.std.proofs.Common.{◌≡◌, ℕ, zero, suc, ◌+◌, ◌^◌, ◌≤◌, Bool, true, false, cond, ltb, List, [], ◌∷◌, ◌++◌}
use Rattle.std.proofs.Common.{length, take, drop, Option, Some, None, Result, Ok, Err, ℤ, refl, sym, ap, subst, ◌∙◌}
use Rattle.std.proofs.Common.{append_assoc, arith}
use Rattle.std.specs.Int.{w32, w64, to_be_bytes, cast_signed, cast_unsigned}
use Rattle.std.proofs.Math.Facts.{sfits_to_z, Fits-of_lt}
use Rattle.std.proofs.lemmas.Int.{of_z-to_z}
use Rattle.std.proofs.lemmas.Bool.{ltb-false}
use Rattle.std.proofs.lemmas.List.{take-append-drop, length-take, length-drop, drop-drop}
use Rattle.nfs_xdr.specs.declared.XdrError.{XdrError}
use Rattle.nfs_xdr.specs.declared.XdrError.TheVariants.{Short, TooLong, BadValue}
use Rattle.nfs_xdr.specs.Types.{Xdr, Void, Word, Int, Hyper, Flag, Enum, Fixed, Opaque, Pair, Array, Optional, Entries}
use Rattle.nfs_xdr.specs.Types.{Union, Value, padding, flag_number, AnyPadding, IsPadded, SpellsAll, SpellsEntries}
use Rattle.nfs_xdr.specs.Types.{Spells}
use Rattle.nfs_xdr.specs.Reading.{◌>>=◌, number_at, signed_of, flag_of, known_of, bytes_at, opaque_of, some_of}
use Rattle.nfs_xdr.specs.Reading.{read_all, read_entries, arm_of, read}
use Rattle.nfs_xdr.specs.Laws.{IsBytes}
use Rattle.nfs_xdr.proofs.NumberBytesLemmas.{IsBytes-drop, bind_ok, guard_ok, known_ok, ok_is, wide32, wide64, IsFront}
use Rattle.nfs_xdr.proofs.NumberBytesLemmas.{number_found}

-- a front spells the value, and the rest are bytes
pub record Found {A : Type 0} (spells : A → List ℕ → Type 0) (bytes : List ℕ) (x : A × List ℕ) : Type 0 where
  pub front : List ℕ
  pub parts : bytes ≡ front ++ x.1
  pub spelled : spells x.0 front
  pub left : IsBytes x.1

word_found : (bytes : List ℕ) (n : ℕ × List ℕ) → IsBytes bytes → number_at w32 bytes ≡ Ok n
    → IsFront w32 (2 ^ 32) bytes n.0 n.1
word_found bytes n fits e = number_found w32 (2 ^ 32) wide32 bytes n.0 n.1 fits e

-- a flag is the word 0 or 1
flag_is : (n : ℕ × List ℕ) (x : Bool × List ℕ) → flag_of n ≡ Ok x → (n.0 ≡ flag_number x.0) × (n.1 ≡ x.1)
flag_is n x e = grind arith

int_found : (bytes : List ℕ) (x : ℤ × List ℕ) → IsBytes bytes → (number_at w32 bytes >>= signed_of) ≡ Ok x
    → Found (Spells Int) bytes x
int_found bytes x fits e =
    let b = bind_ok (number_at w32 bytes) signed_of x e in
    let n = b.0 in
    let w = word_found bytes n fits b.1 in
    let bits : to_be_bytes w32 n.0 ≡ to_be_bytes w32 (cast_unsigned w32 (cast_signed w32 n.0)) = ap
    (λ (k : ℕ). to_be_bytes w32 k) (sym (of_z-to_z w32 n.0 w.below)) in
    subst (λ (y : ℤ × List ℕ). Found (Spells Int) bytes y) (ok_is (cast_signed w32 n.0, n.1) x b.2)
    record {
      front = to_be_bytes w32 n.0;
      parts = w.parts;
      spelled = (sfits_to_z (Fits-of_lt w.below), bits);
      left = w.left;
    }

flag_found : (bytes : List ℕ) (x : Bool × List ℕ) → IsBytes bytes → (number_at w32 bytes >>= flag_of) ≡ Ok x
    → Found (Spells Flag) bytes x
flag_found bytes x fits e =
    let b = bind_ok (number_at w32 bytes) flag_of x e in
    let w = word_found bytes b.0 fits b.1 in
    let is = flag_is b.0 x b.2 in
    record {
      front = to_be_bytes w32 b.0.0;
      parts = w.parts ∙ ap (λ (r : List ℕ). to_be_bytes w32 b.0.0 ++ r) is.1;
      spelled = ap (λ (k : ℕ). to_be_bytes w32 k) is.0;
      left = rw (← is.1) w.left;
    }

in_three : (n k : ℕ) (l : List ℕ) → (take n l ++ take k (drop n l)) ++ drop (n + k) l ≡ l
in_three n k l = rw (append_assoc, ← drop-drop k n l, take-append-drop, take-append-drop) refl

bytes_found : (size : ℕ) (bytes : List ℕ) (x : List ℕ × List ℕ) → IsBytes bytes → bytes_at size bytes ≡ Ok x
    → (length x.0 ≡ size) × Found (IsPadded AnyPadding) bytes x
bytes_found size bytes x fits e =
    let g = guard_ok (ltb (length bytes) (size + padding size)) Short
    (Ok (take size bytes, drop (size + padding size) bytes)) x e in
    let long : size + padding size ≤ length bytes = ltb-false _ _ g.0 in
    let len : length (take size bytes) ≡ size = omega (arith, length-take size bytes) in
    let pad = take (padding size) (drop size bytes) in
    let pad-len : length pad ≡ padding size = omega (
      arith,
      length-take (padding size) (drop size bytes),
      length-drop
          size bytes,
    ) in
    subst (λ (y : List ℕ × List ℕ). (length y.0 ≡ size) × Found (IsPadded AnyPadding) bytes y)
    (ok_is (take size bytes, drop (size + padding size) bytes) x g.1) (
      len,
      record {
        front = take size bytes ++ pad;
        parts = sym (in_three size (padding size) bytes);
        spelled = record
            { pad = pad; enough = rw len pad-len; allowed = tt; whole = refl };
        left = IsBytes-drop (size + padding size)
            bytes fits;
      },
    )

opaque_found : (max : ℕ) (bytes : List ℕ) (x : List ℕ × List ℕ) → IsBytes bytes
    → (number_at w32 bytes >>= opaque_of max) ≡ Ok x → Found (Spells (Opaque max)) bytes x
opaque_found max bytes x fits e =
    let b = bind_ok (number_at w32 bytes) (opaque_of max) x e in
    let n = b.0 in
    let w = word_found bytes n fits b.1 in
    let g = guard_ok (ltb max n.0) TooLong (bytes_at n.0 n.1) x b.2 in
    let bound : n.0 ≤ max = ltb-false _ _ g.0 in
    let f = bytes_found n.0 n.1 x w.left g.1 in
    let parts : bytes ≡ (to_be_bytes w32 n.0 ++ f.1.front) ++ x.1 = w.parts
    ∙ ap (λ (r : List ℕ). to_be_bytes w32 n.0 ++ r) f.1.parts
    ∙ sym (append_assoc (to_be_bytes w32 n.0) f.1.front x.1) in
    record {
      front = to_be_bytes w32 n.0 ++ f.1.front;
      parts = parts;
      spelled = (
        omega (arith, f.0),
        omega (arith, f.0, w.below),
        (f.1.front, ap (λ (k : ℕ). to_be_bytes w32 k ++ f.1.front) (sym f.0), f.1.spelled),
      );
      left = f.1.left;
    }

-- ---- items made of items

-- the reader finds what is spelled
abbrev Finds : {A : Type 0} → (List ℕ → Result (A × List ℕ) XdrError) → (A → List ℕ → Type 0) → Type 0
Finds {A} reads spells = (bytes : List ℕ) (x : A × List ℕ) → IsBytes bytes → reads bytes ≡ Ok x → Found spells bytes x

-- two fronts, one behind the other
joined : (bytes front middle front' rest : List ℕ) → bytes ≡ front ++ middle → middle ≡ front' ++ rest
    → bytes ≡ (front ++ front') ++ rest
joined bytes front middle front' rest p q = p ∙ ap (λ (r : List ℕ). front ++ r) q ∙ sym (append_assoc front front' rest)

pair_found : (a b : Xdr) → Finds (read a) (Spells a) → Finds (read b) (Spells b)
    → Finds (read (Pair a b)) (Spells (Pair a b))
unfolding read
pair_found a b at_a at_b bytes x fits e =
    let p = bind_ok (read a bytes) (λ v. read b v.1 >>= (λ w. Ok ((v.0, w.0), w.1))) x e in
    let f = at_a bytes p.0 fits p.1 in
    let q = bind_ok (read b p.0.1) (λ w. Ok ((p.0.0, w.0), w.1)) x p.2 in
    let g = at_b p.0.1 q.0 f.left q.1 in
    subst (λ (y : Value (Pair a b) × List ℕ). Found (Spells (Pair a b)) bytes y) (ok_is ((p.0.0, q.0.0), q.0.1) x q.2)
    record {
      front = f.front ++ g.front;
      parts = joined bytes f.front p.0.1 g.front q.0.1 f.parts g.parts;
      spelled = (f.front, g.front, refl, f.spelled, g.spelled);
      left = g.left;
    }

all_joined : {A : Type 0} (spells : A → List ℕ → Type 0) (v : A) (vs : List A) (front back : List ℕ) → spells v front
    → SpellsAll spells vs back → SpellsAll spells (v ∷ vs) (front ++ back)
all_joined spells v vs front back s t = (front, back, refl, s, t)

-- so many elements, one after another
pub record FoundAll {A : Type 0} (spells : A → List ℕ → Type 0) (n : ℕ) (bytes : List ℕ) (x : List A × List ℕ) : Type
    0 where
  pub count : length x.0 ≡ n
  pub found : Found (SpellsAll spells) bytes x

all_found : {A : Type 0} (reads : List ℕ → Result (A × List ℕ) XdrError) (spells : A → List ℕ → Type 0)
    → Finds reads spells → (n : ℕ) (bytes : List ℕ) (x : List A × List ℕ) → IsBytes bytes
    → read_all reads n bytes ≡ Ok x → FoundAll spells n bytes x
unfolding read_all
all_found {A} reads spells finds zero bytes x fits e =
    subst (λ (y : List A × List ℕ). FoundAll spells 0 bytes y) (ok_is ([], bytes) x e)
    record { count = refl; found = record { front = []; parts = refl; spelled = refl; left = fits } }
all_found {A} reads spells finds (suc n) bytes x fits e =
    let p = bind_ok (reads bytes) (λ v. read_all reads n v.1 >>= (λ vs. Ok (v.0 ∷ vs.0, vs.1))) x e in
    let f = finds bytes p.0 fits p.1 in
    let q = bind_ok (read_all reads n p.0.1) (λ vs. Ok (p.0.0 ∷ vs.0, vs.1)) x p.2 in
    let g = all_found reads spells finds n p.0.1 q.0 f.left q.1 in
    subst (λ (y : List A × List ℕ). FoundAll spells (suc n) bytes y) (ok_is (p.0.0 ∷ q.0.0, q.0.1) x q.2)
    record {
      count = ap suc g.count;
      found = record {
        front = f.front ++ g.found.front;
        parts = joined bytes f.front
            p.0.1 g.found.front q.0.1 f.parts g.found.parts;
        spelled = all_joined spells p.0.0 q.0.0 f.front g.found.front
            f.spelled g.found.spelled;
        left = g.found.left;
      };
    }

array_found : (max : ℕ) (a : Xdr) → Finds (read a) (Spells a) → Finds (read (Array max a)) (Spells (Array max a))
unfolding read
array_found max a at_a bytes x fits e =
    let p = bind_ok (number_at w32 bytes) (λ n. cond (ltb max n.0) (Err TooLong) (read_all (read a) n.0 n.1)) x e in
    let n = p.0 in
    let w = word_found bytes n fits p.1 in
    let g = guard_ok (ltb max n.0) TooLong (read_all (read a) n.0 n.1) x p.2 in
    let bound : n.0 ≤ max = ltb-false _ _ g.0 in
    let f = all_found (read a) (Spells a) at_a n.0 n.1 x w.left g.1 in
    record {
      front = to_be_bytes w32 n.0 ++ f.found.front;
      parts = joined bytes (to_be_bytes w32 n.0) n.1 f.found.front x.1 w.parts f.found.parts;
      spelled = (
        omega (arith, f.count),
        omega (arith, f.count, w.below),
        (f.found.front, ap (λ (k : ℕ). to_be_bytes w32 k ++ f.found.front) (sym f.count), f.found.spelled),
      );
      left = f.found.left;
    }

-- what stands behind a flag
optional_then : (a : Xdr) → Finds (read a) (Spells a) → (more : Bool) (front rest : List ℕ) (bytes : List ℕ)
    (x : Option (Value a) × List ℕ) → bytes ≡ front ++ rest → Spells Flag more front → IsBytes rest
    → cond more (read a rest >>= some_of) (Ok (None, rest)) ≡ Ok x → Found (Spells (Optional a)) bytes x
optional_then a at_a true front rest bytes x parts spelled left e =
    let p = bind_ok (read a rest) some_of x e in
    let f = at_a rest p.0 left p.1 in
    subst (λ (y : Option (Value a) × List ℕ). Found (Spells (Optional a)) bytes y) (ok_is (Some p.0.0, p.0.1) x p.2)
    record {
      front = front ++ f.front;
      parts = joined bytes front rest f.front p.0.1 parts f.parts;
      spelled = (f.front, ap (λ (r : List ℕ). r ++ f.front) spelled, f.spelled);
      left = f.left;
    }
optional_then a at_a false front rest bytes x parts spelled left e =
    subst (λ (y : Option (Value a) × List ℕ). Found (Spells (Optional a)) bytes y) (ok_is (None, rest) x e)
    record { front = front; parts = parts; spelled = spelled; left = left }

optional_found : (a : Xdr) → Finds (read a) (Spells a) → Finds (read (Optional a)) (Spells (Optional a))
unfolding read
optional_found a at_a bytes x fits e =
    let p = bind_ok (number_at w32 bytes >>= flag_of) (λ v. cond v.0 (read a v.1 >>= some_of) (Ok (None, v.1))) x e in
    let f = flag_found bytes p.0 fits p.1 in
    optional_then a at_a p.0.0 f.front p.0.1 bytes x f.parts f.spelled f.left p.2

-- what stands behind a flag of a list of entries, where the list behind an entry is found
entries_then : {A : Type 0} (reads : List ℕ → Result (A × List ℕ) XdrError) (reads_more : List ℕ
    → Result (List A × List ℕ) XdrError) (spells : A → List ℕ → Type 0) → Finds reads spells
    → Finds reads_more (SpellsEntries spells) → (more : Bool) (front rest : List ℕ) (bytes : List ℕ) (x : List A
    × List ℕ) → bytes ≡ front ++ rest → Spells Flag more front → IsBytes rest
    → cond more (reads rest >>= (λ v. reads_more v.1 >>= (λ vs. Ok (v.0 ∷ vs.0, vs.1)))) (Ok ([], rest)) ≡ Ok x
    → Found (SpellsEntries spells) bytes x
entries_then {A} reads reads_more spells finds finds_more true front rest bytes x parts spelled left e =
    let p = bind_ok (reads rest) (λ v. reads_more v.1 >>= (λ vs. Ok (v.0 ∷ vs.0, vs.1))) x e in
    let f = finds rest p.0 left p.1 in
    let q = bind_ok (reads_more p.0.1) (λ vs. Ok (p.0.0 ∷ vs.0, vs.1)) x p.2 in
    let g = finds_more p.0.1 q.0 f.left q.1 in
    let both : rest ≡ (f.front ++ g.front) ++ q.0.1 = joined rest f.front p.0.1 g.front q.0.1 f.parts g.parts in
    subst (λ (y : List A × List ℕ). Found (SpellsEntries spells) bytes y) (ok_is (p.0.0 ∷ q.0.0, q.0.1) x q.2)
    record {
      front = front ++ (f.front ++ g.front);
      parts = joined bytes front rest (f.front ++ g.front) q.0.1 parts
          both;
      spelled = (
        f.front,
        g.front,
        ap (λ (r : List ℕ). r ++ (f.front ++ g.front)) spelled,
        f.spelled,
        g.spelled,
      );
      left = g.left;
    }
entries_then {A} reads reads_more spells finds finds_more false front rest bytes x parts spelled left e =
    subst (λ (y : List A × List ℕ). Found (SpellsEntries spells) bytes y) (ok_is ([], rest) x e)
    record { front = front; parts = parts; spelled = spelled; left = left }

entries_found : {A : Type 0} (reads : List ℕ → Result (A × List ℕ) XdrError) (spells : A → List ℕ → Type 0)
    → Finds reads spells → (n : ℕ) → Finds (read_entries reads n) (SpellsEntries spells)
unfolding read_entries
entries_found reads spells finds zero bytes x fits e = absurd cc
entries_found reads spells finds (suc n) bytes x fits e =
    let p = bind_ok (number_at w32 bytes >>= flag_of)
    (λ more. cond more.0 (reads more.1 >>= (λ v. read_entries reads n v.1 >>= (λ vs. Ok (v.0 ∷ vs.0, vs.1))))
    (Ok ([], more.1))) x e in
    let f = flag_found bytes p.0 fits p.1 in
    entries_then reads (read_entries reads n) spells finds (entries_found reads spells finds n) p.0.0 f.front p.0.1
    bytes x f.parts f.spelled f.left p.2

union_found : (known : ℕ → Bool) (arm : ℕ → Xdr) → ((tag : ℕ) → Finds (read (arm tag)) (Spells (arm tag)))
    → Finds (read (Union known arm)) (Spells (Union known arm))
unfolding read arm_of
union_found known arm at_arm bytes x fits e =
    let p = bind_ok (number_at w32 bytes) (arm_of known arm (λ tag. read (arm tag))) x e in
    let n = p.0 in
    let w = word_found bytes n fits p.1 in
    let g = known_ok (known n.0) BadValue (read (arm n.0) n.1 >>= (λ v. Ok ((n.0, v.0), v.1))) x p.2 in
    let q = bind_ok (read (arm n.0) n.1) (λ v. Ok ((n.0, v.0), v.1)) x g.1 in
    let f = at_arm n.0 n.1 q.0 w.left q.1 in
    subst (λ (y : Value (Union known arm) × List ℕ). Found (Spells (Union known arm)) bytes y)
    (ok_is ((n.0, q.0.0), q.0.1) x q.2)
    record {
      front = to_be_bytes w32 n.0 ++ f.front;
      parts = joined bytes (to_be_bytes w32 n.0) n.1 f.front q.0.1
          w.parts f.parts;
      spelled = (w.below, g.0, (f.front, refl, f.spelled));
      left = f.left;
    }

void_found : Finds (read Void) (Spells Void)
unfolding read
void_found bytes x fits e =
    subst (λ (y : Value Void × List ℕ). Found (Spells Void) bytes y) (ok_is (tt, bytes) x e)
    record { front = []; parts = refl; spelled = refl; left = fits }

enum_found : (known : ℕ → Bool) → Finds (read (Enum known)) (Spells (Enum known))
unfolding read
enum_found known bytes x fits e =
    let p = bind_ok (number_at w32 bytes) (known_of known) x e in
    let w = word_found bytes p.0 fits p.1 in
    let g = known_ok (known p.0.0) BadValue (Ok p.0) x p.2 in
    subst (λ (y : ℕ × List ℕ). Found (Spells (Enum known)) bytes y) (ok_is p.0 x g.1)
    record { front = to_be_bytes w32 p.0.0; parts = w.parts; spelled = (w.below, g.0, refl); left = w.left }

fixed_found : (size : ℕ) → Finds (read (Fixed size)) (Spells (Fixed size))
unfolding read
fixed_found size bytes x fits e =
    let f = bytes_found size bytes x fits e in
    record { front = f.1.front; parts = f.1.parts; spelled = (f.0, f.1.spelled); left = f.1.left }

-- What is read of bytes is spelled by a front of them.
pub found : (t : Xdr) (bytes : List ℕ) (x : Value t × List ℕ) → IsBytes bytes → read t bytes ≡ Ok x
    → Found (Spells t) bytes x
unfolding read
found Void bytes x fits e = void_found bytes x fits e
found Word bytes x fits e =
    let w = word_found bytes x fits e in
    record { front = to_be_bytes w32 x.0; parts = w.parts; spelled = (w.below, refl); left = w.left }
found Int bytes x fits e = int_found bytes x fits e
found Hyper bytes x fits e =
    let w = number_found w64 (2 ^ 64) wide64 bytes x.0 x.1 fits e in
    record { front = to_be_bytes w64 x.0; parts = w.parts; spelled = (w.below, refl); left = w.left }
found Flag bytes x fits e = flag_found bytes x fits e
found (Enum known) bytes x fits e = enum_found known bytes x fits e
found (Fixed size) bytes x fits e = fixed_found size bytes x fits e
found (Opaque max) bytes x fits e = opaque_found max bytes x fits e
found (Pair a b) bytes x fits e = pair_found a b (found a) (found b) bytes x fits e
found (Array max a) bytes x fits e = array_found max a (found a) bytes x fits e
found (Optional a) bytes x fits e = optional_found a (found a) bytes x fits e
found (Entries a) bytes x fits e = entries_found (read a) (Spells a) (found a) (length bytes) bytes x fits e
found (Union known arm) bytes x fits e = union_found known arm (λ tag. found (arm tag)) bytes x fits e
