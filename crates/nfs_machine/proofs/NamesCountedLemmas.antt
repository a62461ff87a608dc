-- Where names of an object are counted, an entry leads to it, and what has entries is a directory.
use Rattle.std.proofs.Common.{◌≡◌, ◌==◌, ℕ, ◌≤◌, Bool, true, false, cond, List, [], ◌∷◌, refl}
use Rattle.std.proofs.Common.{ap, arith}
use Rattle.std.proofs.lemmas.List.Sums.{sum_by-cons}
use Rattle.std.specs.List.{AllByRecursion, count_by}
use Rattle.nfs_machine.specs.Attributes.{is_directory, names_in}
use Rattle.nfs_machine.specs.State.{Entry, Living}
use Rattle.nfs_machine.proofs.WellFormedLemmas.{no_entries}

-- where some entry passes a test, what is true of all is true of one that passes
pub passing : (P : Entry → Type 0) (test : Entry → Bool) (es : List Entry) → AllByRecursion P es → 1 ≤ count_by test es
    → (e : Entry) × P e × (test e ≡ true)
passing P test [] all some = absurd (omega (arith, some))
passing P test (e ∷ es) all some =
    elim (test e) as (λ b. test e ≡ b → (x : Entry) × P x × (test x ≡ true)) [
      | true ↦ λ t. (e, all.0, t)
      | false ↦ λ t. passing P test es all.1 (let none : cond {A = ℕ} (test e) 1 0 ≡ 0 = ap (λ b. cond b 1 0) t in omega
          (arith, some, none, sum_by-cons (λ (y : Entry). cond {A = ℕ} (test y) 1 0) e es))
    ] refl

pub has-directory : (number : ℕ) (d : Living) → 1 ≤ names_in number d → is_directory d.content ≡ true
has-directory number d some =
    elim (is_directory d.content) as (λ b. is_directory d.content ≡ b → b ≡ true) [
      | true ↦ λ e. refl
      | false ↦ λ e. (let none : names_in number d ≡ 0 = ap (count_by (λ (x : Entry). x.number == number))
          (no_entries d.content e) in absurd (omega (arith, none, some)))
    ] refl
