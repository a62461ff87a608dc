-- A union's arm at a discriminant that code has tested.
-- The type of an arm depends on the discriminant, so no tactic replaces it there: these equations name it once as what
-- it is.
use Rattle.std.proofs.Common.{◌≡◌, ℕ, Bool, List, Result, Ok, Err, if◌then◌else◌, refl, subst}
use Rattle.nfs_xdr.specs.declared.XdrError.{XdrError}
use Rattle.nfs_xdr.specs.declared.XdrError.TheVariants.{BadValue}
use Rattle.nfs_xdr.specs.Types.{Xdr, Value}
use Rattle.nfs_xdr.specs.Reading.{◌>>=◌, arm_of}
use Rattle.nfs_xdr.specs.Writing.{with_word, with_arm}

module _ (known : ℕ → Bool) (arm : ℕ → Xdr) (inner : (tag : ℕ) → List ℕ
    → Result (Value (arm tag) × List ℕ) XdrError) where
  -- what is read at a discriminant
  abbrev pub read_at : ℕ → List ℕ → Result (((tag : ℕ) × Value (arm tag)) × List ℕ) XdrError
  read_at tag rest = if known tag then (inner tag rest >>= (λ v. Ok ((tag, v.0), v.1))) else Err BadValue

  -- the same, where the discriminant is known to be this one
  abbrev pub ReadAt : ℕ → List ℕ → ℕ → Type 0
  ReadAt n rest tag = n ≡ tag → arm_of known arm inner (n, rest) ≡ read_at tag rest

  read_at_tag : (n : ℕ) (rest : List ℕ) (tag : ℕ) → ReadAt n rest tag
  unfolding arm_of
  read_at_tag n rest tag e = let P : ℕ → Type 0 = λ t. arm_of known arm inner (n, rest) ≡ read_at t rest in subst
      P e refl

  pub arm_of_is : (n : ℕ) (rest : List ℕ) → (arm_of known arm inner (n, rest) ≡ read_at n rest) × ReadAt n rest 0
      × ReadAt n rest 1 × ReadAt n rest 2 × ReadAt n rest 3 × ReadAt n rest 4 × ReadAt n rest 5 × ReadAt n rest 6
      × ReadAt n rest 7
  unfolding arm_of
  arm_of_is n rest =
      let at = read_at_tag n rest in
      (refl, at 0, at 1, at 2, at 3, at 4, at 5, at 6, at 7)

pub with_arm_is : (arm : ℕ → Xdr) (inner : (tag : ℕ) → Value (arm tag) → List ℕ → List ℕ) (tag : ℕ)
    (x : Value (arm tag)) (old : List ℕ) → with_arm arm inner (tag, x) old ≡ inner tag x (with_word tag old)
unfolding with_arm
with_arm_is arm inner tag x old = refl

-- for `using` on a function that reads or writes a union
pub ruleset unions = (arm_of_is, with_arm_is)
