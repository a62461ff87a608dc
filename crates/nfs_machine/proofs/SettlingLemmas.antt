-- What is true of one file where requests that wait for it are granted, one after the other.
use Rattle.std.proofs.Common.{◌≡◌, ◌==◌, ℕ, ◌+◌, cond, List, [], ◌∷◌, ◌++◌, Some}
use Rattle.std.proofs.Common.{refl, sym, ◌∙◌, ap, subst, arith}
use Rattle.std.proofs.lemmas.List.Sums.{sum_by-cons}
use Rattle.std.specs.List.{AllByRecursion}
use Rattle.nfs_machine.specs.LocksFormed.{NoLocksConflict, count_of}
use Rattle.nfs_machine.specs.OneFile.{AreHeldUp, FileLocks, IsGranted, Settles, requested}
use Rattle.nfs_machine.specs.State.{Request}
use Rattle.nfs_machine.proofs.FileMapLemmas.{count-joined}
use Rattle.nfs_machine.proofs.ModesLemmas.{apart-with}

-- what each grant keeps, and what is true of each request that is granted
module _ (P : FileLocks → Type 0) (Q : Request → Type 0)
    (step : (a b : FileLocks) (r : Request) → IsGranted a r b → P a → P b × Q r) where
  pub settles-keep : (a b : FileLocks) (granted : List Request) → Settles a granted b → P a →
      P b × AllByRecursion Q granted
  settles-keep a b [] (held, is) p = (subst P (sym is) p, tt)
  settles-keep a b (r ∷ granted) (mid, one, rest) p =
      let now = step a mid r one p in
      let more = settles-keep mid b granted rest now.0 in
      (more.0, (now.1, more.1))

-- no two owners come to conflict
pub settles-apart : (a b : FileLocks) (granted : List Request) → Settles a granted b → NoLocksConflict a.locks →
    NoLocksConflict b.locks
settles-apart a b granted settles apart =
    (settles-keep (λ f. NoLocksConflict f.locks) (λ r. Unit {0})
    (λ x y r g h. (apart-with x.locks (requested r) (Some r.exclusive) g.free y.locks g.lists h, tt)) a b granted
    settles apart).0

-- in the end what waits is held up
pub settles-held : (a b : FileLocks) (granted : List Request) → Settles a granted b → AreHeldUp b
settles-held a b [] (held, is) = subst AreHeldUp (sym is) held
settles-held a b (r ∷ granted) (mid, one, rest) = settles-held mid b granted rest

-- where none waits, none is granted and all stays
pub settles-none : (a b : FileLocks) (granted : List Request) → Settles a granted b → a.waiting ≡ [] →
    (granted ≡ []) × (b ≡ a)
settles-none a b [] (held, is) none = (refl, is)
settles-none a b (r ∷ granted) (mid, one, rest) none = absurd (no one.earlier (sym none ∙ one.waits))
  where
    no : (xs : List Request) → [] ≡ xs ++ r ∷ one.later → ⊥
    no [] e = cc
    no (x ∷ xs) e = cc

-- what waited waits still, or is granted
pub settles-count : (n : ℕ) (a b : FileLocks) (granted : List Request) → Settles a granted b →
    count_of n b.waiting + count_of n granted ≡ count_of n a.waiting
settles-count n a b [] (held, is) =
    let same : count_of n b.waiting ≡ count_of n a.waiting = ap (λ (f : FileLocks). count_of n f.waiting) is in
    omega (arith, same)
settles-count n a b (r ∷ granted) (mid, one, rest) =
    let more = settles-count n mid b granted rest in
    let left : count_of n mid.waiting ≡ count_of n (one.earlier ++ one.later) = ap (count_of n) one.waiting in
    let had : count_of n a.waiting ≡ count_of n (one.earlier ++ r ∷ one.later) = ap (count_of n) one.waits in
    let joined = count-joined (λ (q : Request). q.number == n) one.earlier r one.later in
    omega (
      arith,
      more,
      left,
      had,
      joined,
      sum_by-cons (λ (q : Request). cond {A = ℕ} (q.number == n) 1 0) r granted,
    )
