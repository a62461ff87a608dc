-- A loop that reads an array: what is read so far is a reading of fewer elements, and the first refusal is that of
-- the whole.
use Rattle.std.proofs.Common.{◌≡◌, ℕ, zero, suc, ◌+◌, ◌<◌, List, [], ◌∷◌, ◌++◌, Result, Ok}
use Rattle.std.proofs.Common.{Err, refl, subst, arith, add-one}
use Rattle.nfs_xdr.specs.declared.XdrError.{XdrError}
use Rattle.nfs_xdr.specs.Reading.{◌>>=◌, read_all}
use Rattle.nfs_xdr.proofs.NumberBytesLemmas.{bind_ok, ok_is}

module _ {A : Type 0} (reads : List ℕ → Result (A × List ℕ) XdrError) where
  first_read : (n : ℕ) (start : List ℕ) (v : A × List ℕ) (vs : List A × List ℕ) → reads start ≡ Ok v
      → read_all reads n v.1 ≡ Ok vs → read_all reads (suc n) start ≡ Ok (v.0 ∷ vs.0, vs.1)
  unfolding read_all
  first_read n start v vs e h = rw (e, h) refl

  later_stops : (n : ℕ) (start : List ℕ) (v : A × List ℕ) (d : XdrError) → reads start ≡ Ok v
      → read_all reads n v.1 ≡ Err d → read_all reads (suc n) start ≡ Err d
  unfolding read_all
  later_stops n start v d e h = rw (e, h) refl

  more : (n : ℕ) (start : List ℕ) (x : List A × List ℕ) (y : A × List ℕ) → read_all reads n start ≡ Ok x
      → reads x.1 ≡ Ok y → read_all reads (suc n) start ≡ Ok (x.0 ++ y.0 ∷ [], y.1)
  unfolding read_all
  more zero start x y e =
      let P : List A × List ℕ → Type 0 =
      λ x. reads x.1 ≡ Ok y → read_all reads 1 start ≡ Ok (x.0 ++ y.0 ∷ [], y.1) in
      subst P (ok_is {A = List A × List ℕ} ([], start) x e) (λ h. rw h refl)
  more (suc n) start x y e =
      let p = bind_ok (reads start) (λ v. read_all reads n v.1 >>= (λ vs. Ok (v.0 ∷ vs.0, vs.1))) x e in
      let q = bind_ok (read_all reads n p.0.1) (λ vs. Ok (p.0.0 ∷ vs.0, vs.1)) x p.2 in
      let P : List A × List ℕ → Type 0 =
      λ x. reads x.1 ≡ Ok y → read_all reads (suc (suc n)) start ≡ Ok (x.0 ++ y.0 ∷ [], y.1) in
      subst P (ok_is {A = List A × List ℕ} (p.0.0 ∷ q.0.0, q.0.1) x q.2)
      (λ h. first_read (suc n) start p.0 (q.0.0 ++ y.0 ∷ [], y.1) p.1 (more n p.0.1 q.0 y q.1 h))

  -- one more element
  pub read_all-more : (n : ℕ) (start middle end : List ℕ) (vs : List A) (v : A)
      → read_all reads n start ≡ Ok (vs, middle) → reads middle ≡ Ok (v, end)
      → read_all reads (n + 1) start ≡ Ok (vs ++ v ∷ [], end)
  read_all-more n start middle end vs v e h = rw add-one (more n start (vs, middle) (v, end) e h)

  stops : (n m : ℕ) (start : List ℕ) (x : List A × List ℕ) (e : XdrError) → n < m
      → read_all reads n start ≡ Ok x → reads x.1 ≡ Err e → read_all reads m start ≡ Err e
  unfolding read_all
  stops n zero start x e lt r = absurd (omega arith)
  stops zero (suc m) start x e lt r =
      let P : List A × List ℕ → Type 0 = λ x. reads x.1 ≡ Err e → read_all reads (suc m) start ≡ Err e in
      subst P (ok_is {A = List A × List ℕ} ([], start) x r) (λ h. rw h refl)
  stops (suc n) (suc m) start x e lt r =
      let p = bind_ok (reads start) (λ v. read_all reads n v.1 >>= (λ vs. Ok (v.0 ∷ vs.0, vs.1))) x r in
      let q = bind_ok (read_all reads n p.0.1) (λ vs. Ok (p.0.0 ∷ vs.0, vs.1)) x p.2 in
      let fewer : n < m = omega arith in
      let P : List A × List ℕ → Type 0 = λ x. reads x.1 ≡ Err e → read_all reads (suc m) start ≡ Err e in
      subst P (ok_is {A = List A × List ℕ} (p.0.0 ∷ q.0.0, q.0.1) x q.2)
      (λ h. later_stops m start p.0 e p.1 (stops n m p.0.1 q.0 e fewer q.1 h))

  -- an element that can't be read
  pub read_all-stops : (n m : ℕ) (start middle : List ℕ) (vs : List A) (e : XdrError) → n < m
      → read_all reads n start ≡ Ok (vs, middle) → reads middle ≡ Err e → read_all reads m start ≡ Err e
  read_all-stops n m start middle vs e lt r h = stops n m start (vs, middle) e lt r h
