-- Bytes begin with one list of fragments only: a header's four bytes give its number, the number gives the length of
-- the body and whether the fragment is the last, so two readings of the same bytes agree fragment by fragment.
use Rattle.std.proofs.Common.{◌≡◌, ℕ, ◌+◌, ◌^◌, ◌<◌, ◌≤◌, Bool, true, false, List, [], ◌∷◌, ◌++◌, length, take, drop}
use Rattle.std.proofs.Common.{refl, ap, sym, ◌∙◌, arith, append_assoc, length-append}
use Rattle.std.specs.Int.{w32, to_be_bytes, from_be_bytes}
use Rattle.std.specs.List.{concat, flat_map}
use Rattle.std.proofs.lemmas.Nat.{from_be_bytes-to_be_bytes_4}
use Rattle.std.proofs.lemmas.List.{take_at, drop_at}
use Rattle.nfs_rpc.specs.Records.{mark, fragment}
use Rattle.nfs_rpc.specs.declared.marking.TheConstants.{RECORD_LIMIT}

-- a word at the front is one number
pub word_front : (m n : ℕ) (x y : List ℕ) → m < 2 ^ 32 → n < 2 ^ 32 → to_be_bytes w32 m ++ x ≡ to_be_bytes w32 n ++ y
    → (m ≡ n) × (x ≡ y)
word_front m n x y small small' same = (
  sym (from_be_bytes-to_be_bytes_4 m small) ∙ ap (λ bytes. from_be_bytes w32 (take 4 bytes)) same
      ∙ from_be_bytes-to_be_bytes_4 n small',
  ap (λ bytes. drop 4 bytes) same,
)

-- fronts of equal length are equal
pub equal_fronts : (a b x y : List ℕ) → length a ≡ length b → a ++ x ≡ b ++ y → (a ≡ b) × (x ≡ y)
equal_fronts a b x y long same = (
  sym (take_at a x (length a) refl) ∙ ap (λ bytes. take (length a) bytes) same ∙ take_at b y (length a) (sym long),
  sym (drop_at a x (length a) refl) ∙ ap (λ bytes. drop (length a) bytes) same ∙ drop_at b y (length a) (sym long),
)

-- a header's number tells whether it is the last fragment's, and the length
pub mark_is_one : (l k : Bool) (m n : ℕ) → m < 2 ^ 31 → n < 2 ^ 31 → mark l + m ≡ mark k + n → (l ≡ k) × (m ≡ n)
mark_is_one true true m n small small' same = (refl, omega arith)
mark_is_one true false m n small small' same = absurd (omega arith)
mark_is_one false true m n small small' same = absurd (omega arith)
mark_is_one false false m n small small' same = (refl, omega arith)

-- a fragment's header is a word
pub mark_small : (b : Bool) (i : ℕ) → i < 2 ^ 31 → mark b + i < 2 ^ 32
mark_small true i small = omega arith
mark_small false i small = omega arith

-- a header that stands before some bytes
pub header_front : (l k : Bool) (m n : ℕ) (x y : List ℕ) → m < 2 ^ 31 → n < 2 ^ 31
    → to_be_bytes w32 (mark l + m) ++ x ≡ to_be_bytes w32 (mark k + n) ++ y → (l ≡ k) × (m ≡ n) × (x ≡ y)
header_front l k m n x y small small' same =
    let words = word_front (mark l + m) (mark k + n) x y (mark_small l m small) (mark_small k n small') same in
    let marks = mark_is_one l k m n small small' words.0 in
    (marks.0, marks.1, words.1)

-- two fragments at one front are the same
pub fragment_front : (l k : Bool) (a b x y : List ℕ) → length a < 2 ^ 31 → length b < 2 ^ 31
    → fragment l a ++ x ≡ fragment k b ++ y → (l ≡ k) × (a ≡ b) × (x ≡ y)
fragment_front l k a b x y small small' same =
    let headers = header_front l k (length a) (length b) (a ++ x) (b ++ y) small small'
    (sym (append_assoc (to_be_bytes w32 (mark l + length a)) a x) ∙ same
    ∙ append_assoc (to_be_bytes w32 (mark k + length b)) b y) in
    let bodies = equal_fronts a b x y headers.1 headers.2 in
    (headers.0, bodies.0, bodies.1)

-- no earlier fragment that stays within the limit begins these bytes, behind so many bytes of the record
abbrev pub Stops : ℕ → List ℕ → Type 0
Stops size tail = (body back : List ℕ) → size + length body ≤ RECORD_LIMIT → tail ≡ fragment false body ++ back → ⊥

-- so the earlier fragments are the same in two readings that stop
pub earlier_are_one : (size m n : ℕ) (d e : List (List ℕ)) (x y : List ℕ)
    → m ≡ size + length (concat d) → n ≡ size + length (concat e) → m ≤ RECORD_LIMIT → n ≤ RECORD_LIMIT → Stops m x
    → Stops n y
    → flat_map (fragment false) d ++ x ≡ flat_map (fragment false) e ++ y → (d ≡ e) × (x ≡ y)
earlier_are_one size m n [] [] x y is is' within within' stops stops' same = (refl, same)
earlier_are_one size m n [] (b ∷ e) x y is is' within within' stops stops' same =
    absurd (stops b (flat_map (fragment false) e ++ y) (omega (arith, length-append b (concat e))) (same
    ∙ append_assoc (fragment false b) (flat_map (fragment false) e) y))
earlier_are_one size m n (a ∷ d) [] x y is is' within within' stops stops' same =
    absurd (stops' a (flat_map (fragment false) d ++ x) (omega (arith, length-append a (concat d))) (sym same
    ∙ append_assoc (fragment false a) (flat_map (fragment false) d) x))
earlier_are_one size m n (a ∷ d) (b ∷ e) x y is is' within within' stops stops' same =
    let lengths = length-append a (concat d) in
    let lengths' = length-append b (concat e) in
    let firsts = fragment_front false false a b (flat_map (fragment false) d ++ x) (flat_map (fragment false) e ++ y)
    (omega arith) (omega arith)
    (sym (append_assoc (fragment false a) (flat_map (fragment false) d) x) ∙ same
    ∙ append_assoc (fragment false b) (flat_map (fragment false) e) y) in
    let rests = earlier_are_one (size + length a) m n d e x y (omega arith) (omega (arith, ap length firsts.1)) within
    within' stops stops' firsts.2 in
    (cc (firsts.1, rests.0), rests.1)
