-- What blocks have of a file, after changes of it.
use Rattle.std.proofs.Common.{◌≡◌, ℕ, ◌+◌, ◌-◌, ◌*◌, ◌<◌, ◌≤◌, List, [], ◌++◌, length, take, drop, replicate}
use Rattle.std.proofs.Common.{min, max, inl, inr, refl, sym, ap, ◌∙◌, arith}
use Rattle.std.proofs.Math.Seq.{drop-append-add}
use Rattle.std.proofs.lemmas.Bool.{cases_lt}
use Rattle.std.proofs.lemmas.List.{append-nil, append_assoc, drop-append-le, drop-replicate, drop_all, length-drop}
use Rattle.std.proofs.lemmas.List.{length-replicate, length-take, nil_from_length, replicate-append-replicate}
use Rattle.std.proofs.lemmas.List.{take-replicate, take_all}
use Rattle.nfs_machine.specs.Data.{resized, written}
use Rattle.nfs_objects.proofs.FilePartLemmas.{part-resized, part-written, resized-length, resized-none}
use Rattle.nfs_objects.proofs.FilePartLemmas.{resized-take, take-grown, written-length, written-none}
use Rattle.nfs_objects.specs.FileMaps.{IsContent, block_size, part_at}

-- how many bytes of a file lie in a block
pub part-length : (bytes : List ℕ) (i : ℕ) → length (part_at bytes i) ≡ min block_size (length bytes - i * block_size)
part-length bytes i =
    length-take block_size (drop (i * block_size) bytes) ∙ ap (min block_size) (length-drop (i * block_size) bytes)

-- ---- zeros behind zeros
abbrev pub zeros : ℕ → List ℕ
zeros n = replicate n 0

pub zeros-more : (m n : ℕ) → zeros m ++ zeros n ≡ zeros (m + n)
zeros-more m n = replicate-append-replicate m n 0

-- bytes with zeros behind them, cut off or with more of them
pub resized-twice : (s : List ℕ) (p m : ℕ) → length s ≤ p → resized (resized s p) m ≡ resized s m
resized-twice s p m short = elim (cases_lt p m) [
  | inl more ↦
      let all : take p s ≡ s = take_all p s short in
      let long = resized-length s p in
      let every : take m (resized s p) ≡ resized s p = take_all m (resized s p) (omega (arith, long)) in
      let left : m - length (resized s p) ≡ m - p = omega (arith, long) in
      let sums : p - length s + (m - p) ≡ m - length s = omega arith in
      let whole : take m s ≡ s = take_all m s (omega arith) in
      (λ i. every i ++ replicate (left i) 0)
      ∙ append_assoc (take p s) (replicate (p - length s) 0) (replicate (m - p) 0)
      ∙ (λ i. all i ++ zeros-more (p - length s) (m - p) i)
      ∙ (λ i. sym whole i ++ replicate (sums i) 0)
  | inr fewer ↦
      let long = resized-length s p in
      let none : m - length (resized s p) ≡ 0 = omega (arith, long) in
      ap (λ k. take m (resized s p) ++ replicate k 0) none ∙ append-nil (take m (resized s p))
      ∙ take-grown m p s fewer
]

-- what is left of bytes with zeros behind them
drop-zeros : (s : List ℕ) (p k : ℕ) → length s ≤ p
    → drop k (resized s p) ≡ drop k s ++ replicate (p - max (length s) k) 0
drop-zeros s p k short = ap (λ xs. drop k (xs ++ replicate (p - length s) 0)) (take_all p s short)
    ∙ elim (cases_lt (length s) k) [
      | inl past ↦
          let at : k ≡ length s + (k - length s) = omega arith in
          let none : drop k s ≡ [] = drop_all k s (omega arith) in
          let left : p - length s - (k - length s) ≡ p - max (length s) k = omega arith in
          ap (λ n. drop n (s ++ replicate (p - length s) 0)) at
          ∙ drop-append-add s (replicate (p - length s) 0) (k - length s)
          ∙ drop-replicate (k - length s) (p - length s) 0
          ∙ (λ i. sym none i ++ replicate (left i) 0)
      | inr within ↦
          let left : p - length s ≡ p - max (length s) k = omega arith in
          drop-append-le k s (replicate (p - length s) 0) within ∙ ap (λ n. drop k s ++ replicate n 0) left
    ]

-- written before or behind the zeros are added
pub written-resized : (s w : List ℕ) (p at : ℕ) → length s ≤ p →
    written (resized s p) at w ≡ resized (written s at w) (max p (at + length w))
written-resized s w p at short =
    let k = at + length w in
    let long = written-length s at w in
    let all : take (max p k) (written s at w) ≡ written s at w = take_all (max p k) (written s at w)
    (omega (arith, long)) in
    let left : p - max (length s) k ≡ max p k - length (written s at w) = omega (arith, long) in
    (λ i. resized-twice s p at short i ++ w ++ drop-zeros s p k short i)
    ∙ sym (append_assoc (resized s at ++ w) (drop k s) (replicate (p - max (length s) k) 0))
    ∙ (λ i. sym all i ++ replicate (left i) 0)

-- ---- changes of files
-- where bytes at an offset begin in a block, and which of them fall into it
abbrev pub place : (offset i : ℕ) → ℕ
place offset i = min (offset - i * block_size) block_size

abbrev pub window : (offset : ℕ) → List ℕ → (i : ℕ) → List ℕ
window offset more i = take (block_size - place offset i) (drop (i * block_size - offset) more)

module _ (size : ℕ) (stored : ℕ → List ℕ) (bytes : List ℕ) (is : IsContent size stored bytes) where
  -- of another size: each block has no more than its part
  pub content-resized : (new : ℕ) (after : ℕ → List ℕ) →
      ((i : ℕ) → after i ≡ take (new - i * block_size) (stored i)) → IsContent new after (resized bytes new)
  content-resized new after cut = record {
    counted = resized-length bytes new;
    filled = λ i. part i;
    short = λ i. (let e = ap length (cut i) in let l = length-take (new - i * block_size) (stored i) in
        let s = is.short i in let a = part-length bytes i in let b = part-length (resized bytes new) i in
        let n = resized-length bytes new in omega (arith, e, l, s, a, b, n));
  }
    where
      part : (i : ℕ) → part_at (resized bytes new) i ≡ resized (after i) (length (part_at (resized bytes new) i))
      part i = elim (cases_lt new (i * block_size)) [
        | inl behind ↦
            let none : drop (i * block_size) (resized bytes new) ≡ [] =
            drop_all (i * block_size) (resized bytes new) (omega (arith, resized-length bytes new)) in
            let nothing : part_at (resized bytes new) i ≡ [] = ap (take block_size) none
            ∙ take_all block_size [] (omega arith) in
            let zero : length (part_at (resized bytes new) i) ≡ 0 = ap length nothing in
            nothing ∙ sym (ap (resized (after i)) zero ∙ empty (after i))
        | inr before ↦
            let c = min block_size (new - i * block_size) in
            let count : length (part_at (resized bytes new) i) ≡ c =
            part-length (resized bytes new) i
            ∙ ap (λ n. min block_size (n - i * block_size)) (resized-length bytes new) in
            let short = is.short i in
            let most = part-length bytes i in
            sym (part-resized bytes new i c before refl)
            ∙ ap (λ p. resized p c) (is.filled i)
            ∙ resized-twice (stored i) (length (part_at bytes i)) c short
            ∙ cut-same i c (omega arith) (omega (arith, short, most))
            ∙ (λ j. resized (sym (cut i) j) (sym count j))
      ]
        where
          empty : (xs : List ℕ) → resized xs 0 ≡ []
          empty xs = let none : 0 - length xs ≡ 0 = omega arith in ap (λ k. replicate k 0) none

          cut-same : (i c : ℕ) → c ≤ new - i * block_size → length (stored i) ≤ block_size →
              resized (stored i) c ≡ resized (take (new - i * block_size) (stored i)) c
          cut-same i c within short = sym (resized-take c (new - i * block_size) (stored i) within)

  -- once more bytes are written at an offset: in each block those that fall into it
  pub content-written : (offset : ℕ) (more : List ℕ) (after : ℕ → List ℕ) →
      ((i : ℕ) → length (window offset more i) ≡ 0 → after i ≡ stored i)
      → ((i : ℕ) → 0 < length (window offset more i) → after i ≡
      written (stored i) (place offset i) (window offset more i))
      → IsContent (max size (offset + length more)) after (written bytes offset more)
  content-written offset more after same changed = record {
    counted = written-length bytes offset more ∙ ap (λ n. max n (offset + length more)) is.counted;
    filled = λ i. (part i).0;
    short = λ i. (part i).1;
  }
    where
      part : (i : ℕ) → (part_at (written bytes offset more) i ≡
          resized (after i) (length (part_at (written bytes offset more) i))) ×
          (length (after i) ≤ length (part_at (written bytes offset more) i))
      part i = elim (cases_lt 0 (length w)) [
        | inl some ↦
            let e = changed i some in (
              whole ∙ (λ j. resized (sym e j) (sym count j)),
              (let a = ap length e in let b = written-length s at w in omega (arith, a, b, count, short)),
            )
        | inr none ↦
            let nothing : length w ≡ 0 = omega (arith, none) in
            let e = same i nothing in (
              quiet nothing ∙ ap (λ x. resized x (length (part_at (written bytes offset more) i))) (sym e),
              (let a = ap length e in omega (arith, a, count, short)),
            )
      ]
        where
          w : List ℕ
          w = window offset more i

          at : ℕ
          at = place offset i

          s : List ℕ
          s = stored i

          p : ℕ
          p = length (part_at bytes i)

          short : length s ≤ p
          short = is.short i

          turned : written (part_at bytes i) at w ≡ part_at (written bytes offset more) i
          turned = part-written bytes more offset i at refl (part_at bytes i) w refl refl

          filled : written (part_at bytes i) at w ≡ resized (written s at w) (max p (at + length w))
          filled = ap (λ x. written x at w) (is.filled i) ∙ written-resized s w p at short

          count : length (part_at (written bytes offset more) i) ≡ max p (at + length w)
          count = ap length (sym turned) ∙ written-length (part_at bytes i) at w

          whole : part_at (written bytes offset more) i ≡ resized (written s at w) (max p (at + length w))
          whole = sym turned ∙ filled

          quiet : length w ≡ 0 → part_at (written bytes offset more) i ≡
              resized s (length (part_at (written bytes offset more) i))
          quiet nothing = whole' ∙ ap (resized s) (sym grown)
            where
              none : w ≡ []
              none = nil_from_length w nothing

              grown : length (part_at (written bytes offset more) i) ≡ max p at
              grown = count ∙ ap (max p) (omega (arith, nothing))

              front : resized (written s at []) (max p at) ≡ resized s (max p at)
              front = elim (cases_lt (length s) at) [
                | inl before ↦
                    let left : drop (at + 0) s ≡ [] = drop_all (at + 0) s (omega (arith, before)) in
                    let grown : written s at [] ≡ resized s at = ap (λ ys. resized s at ++ [] ++ ys) left
                    ∙ append-nil (resized s at ++ []) ∙ append-nil (resized s at) in
                    ap (λ x. resized x (max p at)) grown ∙ resized-twice s at (max p at) (omega (arith, before))
                | inr within ↦ ap (λ x. resized x (max p at)) (written-none s at within)
              ]

              whole' : part_at (written bytes offset more) i ≡ resized s (max p at)
              whole' = whole ∙ (λ j. resized (written s at (none j)) (max p (at + length (none j))))
                  ∙ ap (λ n. resized (written s at []) (max p n)) (omega arith) ∙ front

-- a new file is all zeros
pub content-new : (size : ℕ) (stored : ℕ → List ℕ) → ((i : ℕ) → stored i ≡ []) → IsContent size stored (zeros size)
content-new size stored none = record {
  counted = length-replicate size 0;
  filled = λ i. parts i ∙ sym (resized-none (length (part_at (zeros size) i)))
      ∙ ap (λ x. resized x (length (part_at (zeros size) i))) (sym (none i));
  short = λ i. (let e = ap length (none i) in omega (arith, e));
}
  where
    parts : (i : ℕ) → part_at (zeros size) i ≡ zeros (length (part_at (zeros size) i))
    parts i = part-are ∙ ap zeros (sym (ap length part-are ∙ length-replicate (min block_size left) 0))
      where
        left : ℕ
        left = size - i * block_size

        front : take block_size (zeros left) ≡ zeros (min block_size left)
        front = elim (cases_lt left block_size) [
          | inl fewer ↦
              take_all block_size (zeros left) (omega (arith, length-replicate {A = ℕ} left 0))
              ∙ ap zeros (least-left fewer)
          | inr more ↦
              take-replicate block_size left 0 more ∙ ap zeros (least-whole more)
        ]
          where
            least-left : left < block_size → left ≡ min block_size left
            least-left h = omega (arith, h)

            least-whole : block_size ≤ left → block_size ≡ min block_size left
            least-whole h = omega (arith, h)

        part-are : part_at (zeros size) i ≡ zeros (min block_size left)
        part-are = ap (take block_size) (drop-replicate (i * block_size) size 0) ∙ front
