-- Names are taken from the front of both lists as long as they are the same.
use Rattle.std.proofs.Common.{◌≡◌, ℕ, Bool, true, false, not, cond, nat_eq, List, [], ◌∷◌, ◌++◌, Option, Some, None}
use Rattle.std.proofs.Common.{refl, ◌∙◌, ap, subst}
use Rattle.std.specs.Cmp.Lexicographic.{pointwise, bytes_decides}
use Rattle.nfs_mount.specs.Fronts.{BeginsNot}

-- the names behind a front
abbrev pub rest_behind : List (List ℕ) → List (List ℕ) → Option (List (List ℕ))
rest_behind [] names = Some names
rest_behind (own ∷ front) [] = None
rest_behind (own ∷ front) (name ∷ names) = cond (pointwise nat_eq name own) (rest_behind front names) None

pub behind_some : (front names rest : List (List ℕ)) → rest_behind front names ≡ Some rest → names ≡ front ++ rest
behind_some [] names rest e = cc
behind_some (own ∷ front) [] rest e = cc
behind_some (own ∷ front) (name ∷ names) rest e =
    elim (pointwise nat_eq name own) as (λ b. pointwise nat_eq name own ≡ b
    → cond b (rest_behind front names) None ≡ Some rest → name ∷ names ≡ own ∷ (front ++ rest)) [
      | true ↦ λ same more. (let n : name ≡ own = (bytes_decides name own).0 same in let m : names ≡ front ++
          rest = behind_some front names rest more in cc)
      | false ↦ λ other none. cc
    ] refl e

pub behind_none : (front names : List (List ℕ)) → rest_behind front names ≡ None → BeginsNot front names
behind_none [] names e rest begins = cc
behind_none (own ∷ front) [] e rest begins = cc
behind_none (own ∷ front) (name ∷ names) e rest begins =
    let n : name ≡ own = cc in
    let m : names ≡ front ++ rest = cc in
    let same : pointwise nat_eq name own ≡ true = (bytes_decides name own).1 n in
    let none : rest_behind front names ≡ None = subst (λ b. cond b (rest_behind front names) None ≡ None) same e in
    behind_none front names none rest m

-- the front ended
pub behind_all : (front names : List (List ℕ)) → front ≡ [] → rest_behind front names ≡ Some names
behind_all front names e = ap (λ f. rest_behind f names) e

-- the names ended before the front
pub behind_short : (front names : List (List ℕ)) (own : List ℕ) (more : List (List ℕ)) → front ≡ own ∷ more → names ≡ []
    → rest_behind front names ≡ None
behind_short front names own more e f = ap (λ o. rest_behind o names) e ∙ ap (rest_behind (own ∷ more)) f

-- the next names differ
pub behind_differs : (front names : List (List ℕ)) (own name : List ℕ) (more others : List (List ℕ))
    → front ≡ own ∷ more → names ≡ name ∷ others
    → true ≡ not (pointwise nat_eq name own) → rest_behind front names ≡ None
behind_differs front names own name more others e f ne =
    ap (λ o. rest_behind o names) e ∙ ap (rest_behind (own ∷ more)) f
    ∙ ap (λ b. cond b (rest_behind more others) None) (differs (pointwise nat_eq name own) ne)
  where
    differs : (b : Bool) → true ≡ not b → b ≡ false
    differs true e = e
    differs false e = refl
