-- What an opaque item leaves is the end of what there was, so it is found again by its length.
use Rattle.std.proofs.Common.{◌≡◌, ℕ, suc, ◌+◌, ◌*◌, ◌-◌, ◌≤◌, List, [], ◌∷◌, ◌++◌, Result, Ok, Err, length, take, drop}
use Rattle.std.proofs.Common.{refl, ap, sym, ◌∙◌, arith, length-drop, append_assoc, append-nil}
use Rattle.std.specs.Int.{w32, from_be_bytes}
use Rattle.std.proofs.lemmas.List.{drop-drop}
use Rattle.std.proofs.lemmas.Grind.{common_steps}
use Rattle.nfs_xdr.specs.Types.{Xdr, Word, Opaque, Array, Pair, Value, padding}
use Rattle.nfs_xdr.specs.Reading.{read, read_all, ◌>>=◌}
use Rattle.nfs_xdr.specs.declared.XdrError.{XdrError}
use Rattle.std.proofs.lemmas.Bool.{le-ltb}

drop_by_length : (k : ℕ) (bytes : List ℕ) → k ≤ length bytes → drop (length bytes - length (drop k bytes)) bytes ≡ drop
    k bytes
drop_by_length k bytes within =
    let same : length bytes - length (drop k bytes) ≡ k = omega (arith, length-drop k bytes) in
    ap (λ n. drop n bytes) same

opaque_leaves : (max : ℕ) (bytes value rest : List ℕ) → read (Opaque max) bytes ≡ Ok (value, rest)
    → let n = from_be_bytes w32 (take 4 bytes) in (rest ≡ drop (4 + (n + padding n)) bytes)
    × (4 + (n + padding n) ≤ length bytes)
unfolding read
opaque_leaves max bytes value rest is = (grind (arith, common_steps), grind (arith, common_steps))

pub opaque_end : (max : ℕ) (bytes value rest : List ℕ) → read (Opaque max) bytes ≡ Ok (value, rest)
    → drop (length bytes - length rest) bytes ≡ rest
opaque_end max bytes value rest is =
    let left = opaque_leaves max bytes value rest is in
    rw (left.0) (drop_by_length _ bytes left.1)

pub pair_reads : (a b : Xdr) (bytes middle rest : List ℕ) (u : Value a) (v : Value b) → read a bytes ≡ Ok (u, middle)
    → read b middle ≡ Ok (v, rest) → read (Pair a b) bytes ≡ Ok ((u, v), rest)
unfolding read
pair_reads a b bytes middle rest u v first second = rw first (rw second refl)

pub word_leaves : (bytes rest : List ℕ) (number : ℕ) → read Word bytes ≡ Ok (number, rest) → rest ≡ drop 4 bytes
unfolding read
word_leaves bytes rest number is = grind (arith, common_steps)

-- one word further
pub word_further : (bytes before after : List ℕ) (words number : ℕ) → before ≡ drop (4 * words) bytes
    → read Word before ≡ Ok (number, after) → after ≡ drop (4 * (words + 1)) bytes
word_further bytes before after words number stands is =
    let further : 4 * words + 4 ≡ 4 * (words + 1) = omega arith in
    word_leaves before after number is ∙ ap (λ l. drop 4 l) stands ∙ drop-drop 4 (4 * words) bytes
    ∙ ap (λ n. drop n bytes) further

-- a word and an opaque item, the second read through a slice
pub auth_reads : (max : ℕ) (bytes middle slice seen front after body : List ℕ) (flavor left : ℕ)
    → read Word bytes ≡ Ok (flavor, middle) → slice ≡ middle → seen ≡ slice → read (Opaque max) seen ≡ Ok (body, front)
    → left ≡ length front
    → after ≡ drop (length slice - left) middle → read (Pair Word (Opaque max)) bytes ≡ Ok ((flavor, body), after)
auth_reads max bytes middle slice seen front after body flavor left first same same' second is goes =
    let read_there : read (Opaque max) middle ≡ Ok (body, front) = rw (same', same) at second in
    let there : after ≡ front = goes ∙ rw (same, is) (opaque_end max middle body front read_there) in
    rw there (pair_reads Word (Opaque max) bytes middle front flavor body first read_there)

-- what is read behind a front that is read already
abbrev pub with_front : List ℕ → Result (List ℕ × List ℕ) XdrError → Result (List ℕ × List ℕ) XdrError
with_front front (Ok x) = Ok (front ++ x.0, x.1)
with_front front (Err e) = Err e

with_front-cons : (front : List ℕ) (number : ℕ) (found : Result (List ℕ × List ℕ) XdrError)
    → with_front front (found >>= (λ xs. Ok (number ∷ xs.0, xs.1))) ≡ with_front (front ++ number ∷ []) found
with_front-cons front number (Ok x) = ap (λ l. Ok (l, x.1)) (sym (append_assoc front (number ∷ []) x.0))
with_front-cons front number (Err e) = refl

-- one number further
pub numbers_further : (front bytes after : List ℕ) (number many fewer : ℕ) → many ≡ suc fewer
    → read Word bytes ≡ Ok (number, after)
    → with_front front (read_all (read Word) many bytes) ≡ with_front (front ++ number ∷ [])
    (read_all (read Word) fewer after)
unfolding read_all
numbers_further front bytes after number many fewer is first = rw is
    (rw first (with_front-cons front number (read_all (read Word) fewer after)))

-- or none
pub numbers_refused : (front bytes : List ℕ) (many fewer : ℕ) (e : XdrError) → many ≡ suc fewer
    → read Word bytes ≡ Err e
    → with_front front (read_all (read Word) many bytes) ≡ Err e
unfolding read_all
numbers_refused front bytes many fewer e is first = rw is (rw first refl)

-- all are read
pub numbers_end : (front bytes : List ℕ) (many : ℕ) → many ≡ 0 → with_front front (read_all (read Word) many bytes) ≡ Ok
    (front, bytes)
unfolding read_all
numbers_end front bytes many is = rw is (ap (λ l. Ok (l, bytes)) (append-nil front))

-- an array is its count and so many numbers
pub array_is : (max : ℕ) (bytes start : List ℕ) (count : ℕ) (found : Result (List ℕ × List ℕ) XdrError)
    → read Word bytes ≡ Ok (count, start) → count ≤ max
    → read_all (read Word) count start ≡ found → read (Array max Word) bytes ≡ found
unfolding read
array_is max bytes start count found first within others = rw first (rw (le-ltb max count within) others)
