-- Maps in which one file alone has a list, and pending grants of which one goes: what becomes of them.
use Rattle.std.proofs.Common.{◌≡◌, ◌==◌, ℕ, Bool, true, false, not, cond, List, [], ◌∷◌}
use Rattle.std.proofs.Common.{Option, Some, None}
use Rattle.std.proofs.Common.{unwrap_or, refl, sym, ◌∙◌, ap}
use Rattle.std.specs.Cmp.{nat_cmp_total, unsigned_Decides}
use Rattle.std.specs.FinMap.{FinMap, empty, get, get-empty, insert, nat_cmp-IsAntisymmetric, remove, same_map}
use Rattle.std.specs.Ordering.{nat_cmp}
use Rattle.nfs_machine.specs.FileLists.{grants_but, of_file, relisted, with_list}
use Rattle.nfs_machine.specs.State.{PendingGrant}
use Rattle.nfs_machine.proofs.MapChangeLemmas.{differs-insert, differs-remove, flipped}
use Rattle.nfs_machine.proofs.FileMapLemmas.{differs-with, get-grants_but, get-relisted, kept, kept-some, kept-there}
use Rattle.nfs_machine.proofs.FileMapLemmas.{left_of, of-there, remade}

-- another list in its place
pub with-again : {A : Type 0} (lists : FinMap nat_cmp (List A)) (file : ℕ) (list other : List A) →
    with_list (with_list lists file list) file other ≡ with_list lists file other
with-again {A} lists file list other =
    same_map nat_cmp_total nat_cmp-IsAntisymmetric _ _ (λ q.
    again-with q other ∙ sym (with-other q other))
  where
    with-other : (q : ℕ) (other : List A) →
        get (with_list lists file other) q ≡ cond (q == file) (kept other) (get lists q)
    with-other q [] = differs-remove lists file q
    with-other q (x ∷ xs) = differs-insert lists file (x ∷ xs) q

    both : (b : Bool) (x y z : Option (List A)) → cond b x (cond b y z) ≡ cond b x z
    both true x y z = refl
    both false x y z = refl

    again-with : (q : ℕ) (other : List A) → get (with_list (with_list lists file list) file other) q
        ≡ cond (q == file) (kept other) (get lists q)
    again-with q [] =
        differs-remove (with_list lists file list) file q
        ∙ ap (cond (q == file) None) (differs-with lists file list q)
        ∙ both (q == file) None (kept list) (get lists q)
    again-with q (x ∷ xs) =
        differs-insert (with_list lists file list) file (x ∷ xs) q
        ∙ ap (cond (q == file) (Some (x ∷ xs))) (differs-with lists file list q)
        ∙ both (q == file) (Some (x ∷ xs)) (kept list) (get lists q)

-- a key that goes, of two
pub removed-first : {X : Type 0} (m : FinMap nat_cmp X) (k n : ℕ) (y x : X) → (k == n) ≡ false →
    get m n ≡ None
    → remove (insert (insert m k y) n x) n ≡ insert m k y
removed-first m k n y x other none =
    same_map nat_cmp_total nat_cmp-IsAntisymmetric _ _ (λ q.
    differs-remove (insert (insert m k y) n x) n q
    ∙ ap (cond (q == n) None) (differs-insert (insert m k y) n x q)
    ∙ elim (q == n) as (λ b. (q == n) ≡ b
    → cond b None (cond b (Some x) (get (insert m k y) q)) ≡ get (insert m k y) q) [
      | true ↦ λ e.
          let is : q ≡ n = (unsigned_Decides q n).0 e in
          sym (ap (get (insert m k y)) is ∙ differs-insert m k y n
          ∙ ap (λ b. cond b (Some y) (get m n)) (flipped k n other) ∙ none)
      | false ↦ λ e. refl
    ] refl)

pub get-one : {X : Type 0} (k : ℕ) (y : X) (q : ℕ) →
    get {R = nat_cmp} (insert empty k y) q ≡ cond (q == k) (Some y) None
get-one k y q = differs-insert empty k y q ∙ ap (cond (q == k) (Some y)) (get-empty nat_cmp q)

pub grants-gone : (k n : ℕ) (y x : PendingGrant) (goes : PendingGrant → Bool) → (k == n) ≡ false →
    goes x ≡ true
    → goes y ≡ false → grants_but goes (insert (insert empty k y) n x) ≡ insert empty k y
grants-gone k n y x goes other gone stays =
    same_map nat_cmp_total nat_cmp-IsAntisymmetric _ _ (λ q.
    get-grants_but goes (insert (insert empty k y) n x) q ∙ ap (left_of goes) (found q)
    ∙ elim (q == n) as (λ b. (q == n) ≡ b
    → left_of goes (cond b (Some x) (cond (q == k) (Some y) None)) ≡ get {R = nat_cmp} (insert empty k y) q) [
      | true ↦ λ e.
          ap (λ b. cond (not b) (Some x) None) gone
          ∙ sym (get-one k y q
          ∙ ap (λ b. cond b (Some y) None) (ap (λ i. i == k) ((unsigned_Decides q n).0 e) ∙ flipped k n other))
      | false ↦ λ e. second (q == k) ∙ sym (get-one k y q)
    ] refl)
  where
    found : (q : ℕ) → get {R = nat_cmp} (insert (insert empty k y) n x) q ≡ cond (q == n) (Some x)
        (cond (q == k) (Some y) None)
    found q = differs-insert (insert empty k y) n x q ∙ ap (cond (q == n) (Some x)) (get-one k y q)

    second : (b : Bool) → left_of goes (cond b (Some y) None) ≡ cond b (Some y) None
    second true = ap (λ b. cond (not b) (Some y) None) stays
    second false = refl

-- the only grant goes, or stays
module _ (k : ℕ) (y : PendingGrant) (goes : PendingGrant → Bool) where
  left-of-one : (q : ℕ) → get (grants_but goes (insert empty k y)) q ≡ left_of goes (cond (q == k) (Some y) None)
  left-of-one q = get-grants_but goes (insert empty k y) q ∙ ap (left_of goes) (get-one k y q)

  pub grant-gone : goes y ≡ true → grants_but goes (insert empty k y) ≡ empty
  grant-gone gone =
      same_map nat_cmp_total nat_cmp-IsAntisymmetric _ _ (λ q.
      left-of-one q
      ∙ elim (q == k) as (λ b. left_of goes (cond b (Some y) None) ≡ None) [
        | true ↦ ap (λ b. cond (not b) (Some y) None) gone
        | false ↦ refl
      ]
      ∙ sym (get-empty nat_cmp q))

  pub grant-stays : goes y ≡ false → grants_but goes (insert empty k y) ≡ insert empty k y
  grant-stays stays =
      same_map nat_cmp_total nat_cmp-IsAntisymmetric _ _ (λ q.
      left-of-one q
      ∙ elim (q == k) as (λ b. left_of goes (cond b (Some y) None) ≡ cond b (Some y) None) [
        | true ↦ ap (λ b. cond (not b) (Some y) None) stays
        | false ↦ refl
      ]
      ∙ sym (get-one k y q))

-- the only key goes
pub removed-one : {X : Type 0} (k : ℕ) (y : X) → remove {R = nat_cmp} (insert empty k y) k ≡ empty
removed-one k y =
    same_map nat_cmp_total nat_cmp-IsAntisymmetric _ _ (λ q.
    differs-remove (insert empty k y) k q ∙ ap (cond (q == k) None) (get-one k y q) ∙ none (q == k)
    ∙ sym (get-empty nat_cmp q))
  where
    none : (b : Bool) → cond b None (cond b (Some y) None) ≡ None
    none true = refl
    none false = refl

-- ---- one file's list, where no other file has any
module _ {A : Type 0} (file : ℕ) where
  pub first-list : (f : List A → List A) →
      with_list empty file (f (of_file empty file)) ≡ with_list empty file (f [])
  first-list f = ap (λ l. with_list empty file (f l)) (ap (λ o. unwrap_or o []) (get-empty nat_cmp file))

  pub next-list : (before : List A) (f : List A → List A)
      → with_list (with_list empty file before) file (f (of_file (with_list empty file before) file))
      ≡ with_list empty file (f before)
  next-list before f =
      ap (λ l. with_list (with_list empty file before) file (f l)) (of-there empty file before)
      ∙ with-again empty file before (f before)

  -- made anew
  pub relisted-one : (anew : ℕ → List A → List A) (x : A) (xs : List A)
      → relisted anew (with_list empty file (x ∷ xs)) ≡ with_list empty file (anew file (x ∷ xs))
  relisted-one anew x xs =
      same_map nat_cmp_total nat_cmp-IsAntisymmetric _ _ (λ q.
      get-relisted anew (with_list empty file (x ∷ xs)) q ∙ ap (remade anew q) (get-one file (x ∷ xs) q)
      ∙ elim (q == file) as (λ b. (q == file) ≡ b → remade anew q (cond b (Some (x ∷ xs)) None)
      ≡ cond b (kept (anew file (x ∷ xs))) None) [
        | true ↦ λ e. ap (λ k. kept (anew k (x ∷ xs))) ((unsigned_Decides q file).0 e)
        | false ↦ λ e. refl
      ] refl
      ∙ sym (differs-with empty file (anew file (x ∷ xs)) q
      ∙ ap (cond (q == file) (kept (anew file (x ∷ xs)))) (get-empty nat_cmp q)))

  pub relisted-none : (anew : ℕ → List A → List A) → relisted anew empty ≡ empty
  relisted-none anew =
      same_map nat_cmp_total nat_cmp-IsAntisymmetric _ _ (λ q.
      get-relisted anew empty q ∙ ap (remade anew q) (get-empty nat_cmp q) ∙ sym (get-empty nat_cmp q))

-- a list that is put into a map leaves none empty
pub with-some : {A : Type 0} (lists : FinMap nat_cmp (List A)) → ((q : ℕ) → get lists q ≡ Some [] → ⊥) →
    (file : ℕ) (list : List A) → (q : ℕ) → get (with_list lists file list) q ≡ Some [] → ⊥
with-some lists some file list q at =
    elim (q == file) as (λ b. cond b (kept list) (get lists q) ≡ Some [] → ⊥) [
      | true ↦ kept-some list
      | false ↦ some q
    ] (sym (differs-with lists file list q) ∙ at)

module _ {A : Type 0} (anew : ℕ → List A → List A) (lists : FinMap nat_cmp (List A)) where
  -- all lists go
  pub relisted-gone : ((q : ℕ) (list : List A) → anew q list ≡ []) → relisted anew lists ≡ empty
  relisted-gone all =
      same_map nat_cmp_total nat_cmp-IsAntisymmetric _ _ (λ q.
      get-relisted anew lists q ∙ of q (get lists q) ∙ sym (get-empty nat_cmp q))
    where
      of : (q : ℕ) (o : Option (List A)) → remade anew q o ≡ None
      of q None = refl
      of q (Some list) = ap kept (all q list)

  -- all lists stay
  pub relisted-kept : ((q : ℕ) → get lists q ≡ Some [] → ⊥) →
      ((q : ℕ) → anew q (of_file lists q) ≡ of_file lists q) → relisted anew lists ≡ lists
  relisted-kept some all =
      same_map nat_cmp_total nat_cmp-IsAntisymmetric _ _ (λ q. get-relisted anew lists q ∙ of q (get lists q) refl)
    where
      of : (q : ℕ) (o : Option (List A)) → get lists q ≡ o → remade anew q o ≡ get lists q
      of q None at = sym at
      of q (Some list) at =
          let is : of_file lists q ≡ list = ap (λ o. unwrap_or o []) at in
          ap (λ l. kept (anew q l)) (sym is) ∙ ap kept (all q) ∙ sym (kept-there lists some q)
