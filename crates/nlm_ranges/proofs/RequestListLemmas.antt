-- Requests one after the other, as they are listed.
use Rattle.std.proofs.Common.{◌≡◌, ℕ, ◌+◌, ◌<◌, true, false, Bool, cond, find, None, List, [], ◌∷◌, ◌++◌}
use Rattle.std.proofs.Common.{Some, refl, sym, ◌∙◌, ap, drop, get_or, length, take}
use Rattle.std.proofs.lemmas.List.{take-append-drop, take_more}
use Rattle.std.proofs.lemmas.List.Folds.{find-append}
use Rattle.std.specs.List.{AllZip, list_any}
use Rattle.std.specs.Option.{option_or}
use Rattle.nfs_machine.specs.State.{Request}
use Rattle.nlm_ranges.proofs.PieceLemmas.{none-found}

-- the first of these, behind others
pub earliest-here : (requests : List Request) (i : ℕ) (r : Request) → i < length requests → r ≡ get_or requests i r →
    (p : Request → Bool) → list_any p (take i requests) ≡ false → p r ≡ true → find p requests ≡ Some r
earliest-here requests i r inside at p before here =
    let behind = drop (i + 1) requests in
    ap (find p) (sym (take-append-drop (i + 1) requests))
    ∙ find-append p (take (i + 1) requests) behind
    ∙ ap (λ o. option_or o (find p behind))
    (ap (find p) (take_more requests i r inside ∙ ap (λ x. take i requests ++ x ∷ []) (sym at))
    ∙ find-append p (take i requests) (r ∷ [])
    ∙ (λ k. option_or (none-found p (take i requests) before k) (cond (here k) (Some r) None)))

-- copies
pub copies-same : {X : Type 0} (xs ys : List X) → AllZip (λ x y. y ≡ x) xs ys → ys ≡ xs
copies-same [] [] all = refl
copies-same [] (y ∷ ys) all = absurd all
copies-same (x ∷ xs) [] all = absurd all
copies-same (x ∷ xs) (y ∷ ys) all = λ i. all.0 i ∷ copies-same xs ys all.1 i
