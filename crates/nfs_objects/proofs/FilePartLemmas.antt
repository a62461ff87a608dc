-- The bytes of files by blocks: the part of each block after a change is a change of that part alone.
use Rattle.std.proofs.Common.{◌≡◌, ℕ, ◌+◌, ◌-◌, ◌*◌, ◌≤◌}
use Rattle.std.proofs.Common.{List, [], ◌++◌, length, take, drop, replicate, min, max, inl, inr}
use Rattle.std.proofs.Common.{refl, sym, ap, ◌∙◌, arith, length-append}
use Rattle.std.proofs.Math.Seq.{drop-append-add, take-append-add}
use Rattle.std.proofs.lemmas.Bool.{cases_lt}
use Rattle.std.proofs.lemmas.List.{append-nil, append_assoc, drop-append-le, drop-drop, drop-replicate, drop-take}
use Rattle.std.proofs.lemmas.List.{drop_all, drop_at, length-drop, length-replicate, length-take, take-append-drop}
use Rattle.std.proofs.lemmas.List.{take-append-le, take-replicate, take-take, take_all}
use Rattle.nfs_machine.specs.Data.{resized, written}
use Rattle.nfs_objects.specs.FileMaps.{block_size, part_at}

-- ---- sizes
pub resized-length : (bytes : List ℕ) (size : ℕ) → length (resized bytes size) ≡ size
resized-length bytes size =
    omega (
      arith,
      length-append (take size bytes) (replicate (size - length bytes) 0),
      length-take size bytes,
      length-replicate {A = ℕ} (size - length bytes) 0,
    )

longest : (a b c : ℕ) → a + b + (c - (a + b)) ≡ max c (a + b)
longest a b c = omega arith

pub written-length : (old : List ℕ) (offset : ℕ) (more : List ℕ) →
    length (written old offset more) ≡ max (length old) (offset + length more)
written-length old offset more =
    length-append (resized old offset ++ more) (drop (offset + length more) old)
    ∙ ap (λ n. n + length (drop (offset + length more) old))
    (length-append (resized old offset) more ∙ ap (λ n. n + length more) (resized-length old offset))
    ∙ ap (λ n. offset + length more + n) (length-drop (offset + length more) old)
    ∙ longest offset (length more) (length old)

-- ---- fronts and rests of lists that are joined
pub take-none : (xs : List ℕ) (n : ℕ) → n ≡ 0 → take n xs ≡ []
take-none xs n none = ap (λ k. take k xs) none

pub take-joined : (n : ℕ) (xs ys : List ℕ) → take n (xs ++ ys) ≡ take n xs ++ take (n - length (take n xs)) ys
take-joined n xs ys = elim (cases_lt (length xs) n) [
  | inl more ↦
      let left : n ≡ length xs + (n - length xs) = omega arith in
      let all : take n xs ≡ xs = take_all n xs (omega arith) in
      ap (λ k. take k (xs ++ ys)) left ∙ take-append-add xs ys (n - length xs)
      ∙ ap (λ zs. zs ++ take (n - length zs) ys) (sym all)
  | inr within ↦
      let none : n - length (take n xs) ≡ 0 = omega (arith, length-take n xs) in
      take-append-le n xs ys within ∙ sym (append-nil (take n xs))
      ∙ ap (λ zs. take n xs ++ zs) (sym (take-none ys (n - length (take n xs)) none))
]

-- ---- resized
pub resized-none : (m : ℕ) → resized [] m ≡ replicate m 0
resized-none m =
    let all : m - 0 ≡ m = omega arith in
    (λ i. take_all m [] (omega arith) i ++ replicate (all i) 0)

pub drop-resized : (s m : ℕ) (xs : List ℕ) → drop s (resized xs (s + m)) ≡ resized (drop s xs) m
drop-resized s m xs = elim (cases_lt (length xs) s) [
  | inl behind ↦
      let zeros : List ℕ = replicate (s + m - length xs) 0 in
      let all : take (s + m) xs ≡ xs = take_all (s + m) xs (omega arith) in
      let at : s ≡ length xs + (s - length xs) = omega arith in
      let left : s + m - length xs - (s - length xs) ≡ m = omega arith in
      let none : drop s xs ≡ [] = drop_all s xs (omega arith) in
      ap (λ ys. drop s (ys ++ zeros)) all ∙ ap (λ k. drop k (xs ++ zeros)) at
      ∙ drop-append-add xs zeros (s - length xs) ∙ drop-replicate (s - length xs) (s + m - length xs) 0
      ∙ ap (λ k. replicate k 0) left ∙ sym (resized-none m) ∙ ap (λ ys. resized ys m) (sym none)
  | inr within ↦
      let zeros : List ℕ = replicate (s + m - length xs) 0 in
      let room : s ≤ length (take (s + m) xs) = omega (arith, length-take (s + m) xs) in
      let left : s + m - length xs ≡ m - length (drop s xs) = omega (arith, length-drop s xs) in
      drop-append-le s (take (s + m) xs) zeros room
      ∙ (λ i. drop-take s m xs i ++ replicate (left i) 0)
]

pub resized-take : (n m : ℕ) (xs : List ℕ) → n ≤ m → resized (take m xs) n ≡ resized xs n
resized-take n m xs within =
    let left : n - length (take m xs) ≡ n - length xs = omega (arith, length-take m xs) in
    (λ i. take-take n m xs within i ++ replicate (left i) 0)

-- a front of what is larger
pub take-grown : (n m : ℕ) (xs : List ℕ) → n ≤ m → take n (resized xs m) ≡ resized xs n
take-grown n m xs within = elim (cases_lt (length xs) n) [
  | inl more ↦
      let zeros : List ℕ = replicate (m - length xs) 0 in
      let all : take m xs ≡ xs = take_all m xs (omega arith) in
      let at : n ≡ length xs + (n - length xs) = omega arith in
      ap (λ ys. take n (ys ++ zeros)) all ∙ ap (λ k. take k (xs ++ zeros)) at
      ∙ take-append-add xs zeros (n - length xs)
      ∙ ap (λ ys. xs ++ ys) (take-replicate (n - length xs) (m - length xs) 0 (omega arith))
      ∙ ap (λ ys. ys ++ replicate (n - length xs) 0) (sym (take_all n xs (omega arith)))
  | inr few ↦
      let zeros : List ℕ = replicate (m - length xs) 0 in
      let room : n ≤ length (take m xs) = omega (arith, length-take m xs) in
      let none : n - length xs ≡ 0 = omega arith in
      take-append-le n (take m xs) zeros room ∙ take-take n m xs within ∙ sym (append-nil (take n xs))
      ∙ ap (λ k. take n xs ++ replicate k 0) (sym none)
]

pub take-resized : (n m : ℕ) (xs : List ℕ) → take n (resized xs m) ≡ resized (take n xs) (min n m)
take-resized n m xs = elim (cases_lt m n) [
  | inl less ↦
      let least : min n m ≡ m = omega arith in
      take_all n (resized xs m) (omega (arith, resized-length xs m))
      ∙ sym (resized-take m n xs (omega arith)) ∙ ap (resized (take n xs)) (sym least)
  | inr within ↦
      let least : min n m ≡ n = omega arith in
      take-grown n m xs within ∙ sym (resized-take n n xs (omega arith)) ∙ ap (resized (take n xs)) (sym least)
]

-- ---- written
-- without a front that ends before the data, and without one that ends behind its begin
drop-before : (s t : ℕ) (xs more : List ℕ) → drop s (written xs (s + t) more) ≡ written (drop s xs) t more
drop-before s t xs more =
    let front = resized xs (s + t) in
    let rest = drop (s + t + length more) xs in
    let long = resized-length xs (s + t) in
    let both = length-append front more in
    let sums : s + (t + length more) ≡ s + t + length more = omega arith in
    drop-append-le s (front ++ more) rest (omega (arith, long, both))
    ∙ ap (λ ys. ys ++ rest) (drop-append-le s front more (omega (arith, long)))
    ∙ (λ i. drop-resized s t xs i ++ more ++ sym (drop-drop (t + length more) s xs ∙ ap (λ k. drop k xs) sums) i)

drop-behind : (o t : ℕ) (xs more : List ℕ) →
    drop (o + t) (written xs o more) ≡ written (drop (o + t) xs) 0 (drop t more)
drop-behind o t xs more =
    ap (drop (o + t)) (append_assoc (resized xs o) more rest)
    ∙ sym (drop-drop t o (resized xs o ++ (more ++ rest)))
    ∙ ap (drop t) (drop_at (resized xs o) (more ++ rest) o (resized-length xs o))
    ∙ left
    ∙ ap (λ ys. ys ++ drop t more ++ drop (0 + length (drop t more)) (drop (o + t) xs)) (sym none)
  where
    rest : List ℕ
    rest = drop (o + length more) xs

    none : resized (drop (o + t) xs) 0 ≡ []
    none =
        let nothing : 0 - length (drop (o + t) xs) ≡ 0 = omega arith in
        ap (λ k. replicate k 0) nothing

    -- what is left of both, where the same follows
    same : (n : ℕ) → n ≡ o + t + (0 + length (drop t more)) →
        drop t more ++ drop n xs ≡ drop t more ++ drop (0 + length (drop t more)) (drop (o + t) xs)
    same n is =
        ap (λ ys. drop t more ++ ys)
        (ap (λ k. drop k xs) is ∙ sym (drop-drop (0 + length (drop t more)) (o + t) xs))

    left : drop t (more ++ rest) ≡ drop t more ++ drop (0 + length (drop t more)) (drop (o + t) xs)
    left = elim (cases_lt (length more) t) [
      | inl past ↦
          let at : t ≡ length more + (t - length more) = omega arith in
          let nothing : drop t more ≡ [] = drop_all t more (omega arith) in
          ap (λ k. drop k (more ++ rest)) at ∙ drop-append-add more rest (t - length more)
          ∙ drop-drop (t - length more) (o + length more) xs
          ∙ ap (λ ys. ys ++ drop (o + length more + (t - length more)) xs) (sym nothing)
          ∙ same (o + length more + (t - length more)) (omega (arith, length-drop t more))
      | inr within ↦
          drop-append-le t more rest within ∙ same (o + length more) (omega (arith, length-drop t more))
    ]

pub drop-written : (s o : ℕ) (xs more : List ℕ) →
    drop s (written xs o more) ≡ written (drop s xs) (o - s) (drop (s - o) more)
drop-written s o xs more = elim (cases_lt o s) [
  | inl past ↦
      let at : s ≡ o + (s - o) = omega arith in
      let none : 0 ≡ o - s = omega arith in
      ap (λ k. drop k (written xs o more)) at ∙ drop-behind o (s - o) xs more
      ∙ (λ i. written (drop (sym at i) xs) (none i) (drop (s - o) more))
  | inr before ↦
      let at : o ≡ s + (o - s) = omega arith in
      let none : 0 ≡ s - o = omega arith in
      ap (λ k. drop s (written xs k more)) at ∙ drop-before s (o - s) xs more
      ∙ ap (λ k. written (drop s xs) (o - s) (drop k more)) none
]

-- a front that ends before the data, and one that ends behind its begin
take-before : (n o : ℕ) (xs more : List ℕ) → n ≤ o → take n (written xs o more) ≡ written (take n xs) n []
take-before n o xs more within =
    let front = resized xs o in
    let rest = drop (o + length more) xs in
    let long = resized-length xs o in
    let both = length-append front more in
    let all : drop (n + 0) (take n xs) ≡ [] = drop_all (n + 0) (take n xs) (omega (arith, length-take n xs)) in
    take-append-le n (front ++ more) rest (omega (arith, long, both))
    ∙ take-append-le n front more (omega (arith, long))
    ∙ take-grown n o xs within ∙ sym (resized-take n n xs (omega arith))
    ∙ sym (append-nil (resized (take n xs) n)) ∙ sym (append-nil (resized (take n xs) n ++ []))
    ∙ ap (λ ys. resized (take n xs) n ++ [] ++ ys) (sym all)

take-behind : (o r : ℕ) (xs more : List ℕ) →
    take (o + r) (written xs o more) ≡ written (take (o + r) xs) o (take r more)
take-behind o r xs more =
    let front = resized xs o in
    let rest = drop (o + length more) xs in
    let long = resized-length xs o in
    let at : o + r ≡ length front + r = omega (arith, long) in
    ap (take (o + r)) (append_assoc front more rest) ∙ ap (λ k. take k (front ++ (more ++ rest))) at
    ∙ take-append-add front (more ++ rest) r ∙ ap (λ ys. front ++ ys) (take-joined r more rest)
    ∙ sym (append_assoc front (take r more) (take (r - length (take r more)) rest))
    ∙ (λ i. sym (resized-take o (o + r) xs (omega arith)) i ++ take r more ++ left i)
  where
    left : take (r - length (take r more)) (drop (o + length more) xs) ≡
        drop (o + length (take r more)) (take (o + r) xs)
    left = elim (cases_lt (length more) r) [
      | inl few ↦
          let all : take r more ≡ more = take_all r more (omega arith) in
          let sums : o + r ≡ o + length more + (r - length more) = omega arith in
          ap (λ ys. take (r - length ys) (drop (o + length more) xs)) all
          ∙ sym (drop-take (o + length more) (r - length more) xs)
          ∙ ap (λ k. drop (o + length more) (take k xs)) (sym sums)
          ∙ ap (λ ys. drop (o + length ys) (take (o + r) xs)) (sym all)
      | inr many ↦
          let long = length-take r more in
          take-none (drop (o + length more) xs) (r - length (take r more)) (omega (arith, long))
          ∙ sym (drop_all (o + length (take r more)) (take (o + r) xs) (omega (arith, long, length-take (o + r) xs)))
    ]

pub take-written : (n o : ℕ) (xs more : List ℕ) →
    take n (written xs o more) ≡ written (take n xs) (min o n) (take (n - min o n) more)
take-written n o xs more = elim (cases_lt o n) [
  | inl within ↦
      let at : n ≡ o + (n - o) = omega arith in
      let least : min o n ≡ o = omega arith in
      ap (λ k. take k (written xs o more)) at ∙ take-behind o (n - o) xs more
      ∙ ap (λ k. written (take k xs) o (take (n - o) more)) (sym at)
      ∙ ap (λ k. written (take n xs) k (take (n - k) more)) (sym least)
  | inr past ↦
      let least : min o n ≡ n = omega arith in
      let none : n - n ≡ 0 = omega arith in
      take-before n o xs more past ∙ ap (written (take n xs) n) (sym (take-none more (n - n) none))
      ∙ ap (λ k. written (take n xs) k (take (n - k) more)) (sym least)
]

-- ---- nothing changes
pub written-none : (bytes : List ℕ) (offset : ℕ) → offset ≤ length bytes → written bytes offset [] ≡ bytes
written-none bytes offset within =
    let none : offset - length bytes ≡ 0 = omega arith in
    let same : offset + 0 ≡ offset = omega arith in
    (λ i. take offset bytes ++ replicate (none i) 0 ++ [] ++ drop (same i) bytes)
    ∙ ap (λ ys. ys ++ [] ++ drop offset bytes) (append-nil (take offset bytes))
    ∙ ap (λ ys. ys ++ drop offset bytes) (append-nil (take offset bytes))
    ∙ take-append-drop offset bytes

pub resized-same : (bytes : List ℕ) (size : ℕ) → size ≡ length bytes → resized bytes size ≡ bytes
resized-same bytes size is =
    let none : size - length bytes ≡ 0 = omega arith in
    ap (λ k. take size bytes ++ replicate k 0) none ∙ append-nil (take size bytes)
    ∙ take_all size bytes (omega arith)

-- ---- the part with a number, after a change
module _ (bytes more : List ℕ) (offset index at : ℕ) (is : at ≡ min (offset - index * block_size) block_size)
    (old window : List ℕ) (was : old ≡ part_at bytes index)
    (wanted : window ≡ take (block_size - at) (drop (index * block_size - offset) more)) where
  pub part-written : written old at window ≡ part_at (written bytes offset more) index
  part-written =
      let start = index * block_size in
      (λ i. written (was i) at (wanted i))
      ∙ ap (λ k. written (part_at bytes index) k (take (block_size - k) (drop (start - offset) more))) is
      ∙ sym (take-written block_size (offset - start) (drop start bytes) (drop (start - offset) more))
      ∙ ap (take block_size) (sym (drop-written start offset bytes more))

-- of a larger file it is whole, and of others it has what is left
pub part-resized : (bytes : List ℕ) (size index count : ℕ) → index * block_size ≤ size →
    count ≡ min block_size (size - index * block_size) →
    resized (part_at bytes index) count ≡ part_at (resized bytes size) index
part-resized bytes size index count within is =
    let start = index * block_size in
    let at : size ≡ start + (size - start) = omega arith in
    ap (resized (part_at bytes index)) is ∙ sym (take-resized block_size (size - start) (drop start bytes))
    ∙ ap (take block_size) (sym (drop-resized start (size - start) bytes))
    ∙ ap (λ k. take block_size (drop start (resized bytes k))) (sym at)

-- ---- what is read in one block
module _ (bytes : List ℕ) (start index inside count : ℕ) (at : start ≡ index * block_size + inside)
    (first : List ℕ) (is : first ≡ part_at bytes index) where
  pub read-one : inside + count ≤ length first →
      take (inside + count - inside) (drop inside first) ≡ take count (drop start bytes)
  read-one within =
      let rest = drop (index * block_size) bytes in
      let most = length-take block_size rest in
      let size = ap length is in
      let split : block_size ≡ inside + (block_size - inside) = omega (arith, most, size, within) in
      let room : count ≤ block_size - inside = omega (arith, most, size, within) in
      let wanted : inside + count - inside ≡ count = omega arith in
      ap (λ k. take k (drop inside first)) wanted ∙ ap (λ ys. take count (drop inside ys)) is
      ∙ ap (λ k. take count (drop inside (take k rest))) split
      ∙ ap (take count) (drop-take inside (block_size - inside) rest)
      ∙ take-take count (block_size - inside) (drop inside rest) room
      ∙ ap (take count) (drop-drop inside (index * block_size) bytes ∙ ap (λ k. drop k bytes) (sym at))
