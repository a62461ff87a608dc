-- One more holder, one less, and who is left.
use Rattle.std.proofs.Common.{◌≡◌, ◌≢◌, ◌<◌, ℕ, ◌==◌, ◌||◌, Bool, true, false, not, cond, List, [], ◌∷◌, ◌++◌}
use Rattle.std.proofs.Common.{Option, Some, None, IsSome, refl, sym, ◌∙◌, ap, subst, arith, get_or, length, slice_get}
use Rattle.std.proofs.Common.{true≢false}
use Rattle.std.specs.List.{AllPairs, filter, list_any}
use Rattle.std.proofs.lemmas.List.Folds.{list_any_at}
use Rattle.std.proofs.lemmas.List.Quantifiers.{all_pairs_push}
use Rattle.std.specs.Cmp.{unsigned_Decides}
use Rattle.std.proofs.lemmas.Bool.Decides.{nat_tests}
use Rattle.nfs_objects.specs.declared.modes.Mode.{Mode}
use Rattle.nfs_objects.specs.declared.modes.Mode.TheVariants.{Shared, Exclusive}
use Rattle.nfs_engine.specs.Holders.{CanHold, HoldersValue, IsExcluder, Reholds, hold_in, hold_of, is_among, nobody}

-- who is found by its number is among them
pub found_among : (hs : List ℕ) (id : ℕ) → list_any (λ h. h == id) hs ≡ is_among hs id
found_among [] id = refl
found_among (h ∷ hs) id = elim (h == id) as (λ b. (b || list_any (λ g. g == id) hs) ≡ cond b true (is_among hs id)) [
  | true ↦ refl
  | false ↦ found_among hs id
]

-- one more at the end is one more among them
pub pushed_among : (hs : List ℕ) (id j : ℕ) → is_among (hs ++ id ∷ []) j ≡ ((id == j) || is_among hs j)
pushed_among [] id j = elim (id == j) as (λ b. cond b true false ≡ (b || false)) [ true ↦ refl | false ↦ refl ]
pushed_among (h ∷ hs) id j =
    elim (h == j) as (λ b. cond b true (is_among (hs ++ id ∷ []) j) ≡ ((id == j) || cond b true (is_among hs j))) [
      | true ↦ elim (id == j) as (λ b. true ≡ (b || true)) [ true ↦ refl | false ↦ refl ]
      | false ↦ pushed_among hs id j
    ]

-- who is among them is so once more
pub known_among : (hs : List ℕ) (id j : ℕ) → is_among hs id ≡ true → is_among hs j ≡ ((id == j) || is_among hs j)
known_among hs id j known = elim (id == j) as (λ b. (id == j) ≡ b → is_among hs j ≡ (b || is_among hs j)) [
  | true ↦ λ e. (let same : id ≡ j = (unsigned_Decides id j).0 e in subst (λ k. is_among hs k ≡ true) same known)
  | false ↦ λ e. refl
] refl

-- one more among them holds it beside the others
pub joined_among : (old new : List ℕ) (id j : ℕ) → is_among new j ≡ ((id == j) || is_among old j) →
    hold_in None new j ≡ cond (id == j) (Some Shared) (hold_in None old j)
joined_among old new id j joins = ap (λ b. cond b (Some Shared) None) joins ∙
    elim (id == j) as (λ b. (let n : Option Mode = None in
    cond (b || is_among old j) (Some Shared) n ≡ cond b (Some Shared) (cond (is_among old j) (Some Shared) n))) [
      | true ↦ refl
      | false ↦ refl
    ]

-- and nobody among them is so twice
pub pushed_once : (hs : List ℕ) (id : ℕ) → is_among hs id ≡ false → AllPairs (λ x y. x ≢ y) hs →
    AllPairs (λ x y. x ≢ y) (hs ++ id ∷ [])
pushed_once hs id fresh once =
    all_pairs_push (λ x y. x ≢ y) hs id once (λ k d within same. absent hs k d within same fresh)
  where
    differ_true : (b : Bool) → b ≡ false → b ≡ true → ⊥
    differ_true b e f = cc

    absent : (hs : List ℕ) (k d : ℕ) → k < length hs → get_or hs k d ≡ id → is_among hs id ≡ false → ⊥
    absent hs k d within same fresh = differ_true (is_among hs id) fresh
        (sym (found_among hs id)
        ∙ list_any_at (λ h. h == id) hs k d within ((unsigned_Decides (get_or hs k d) id).1 same))

differ : (h id j : ℕ) → (h == j) ≡ true → (h == id) ≡ false → (id == j) ≡ false
differ h id j e f = grind (arith, nat_tests)

pub removed_among : (hs : List ℕ) (id j : ℕ) → hold_in None (filter (λ h. not (h == id)) hs) j ≡ cond
    (id == j) None (hold_in None hs j)
removed_among [] id j =
    elim (id == j) as (λ b. (let n : Option Mode = None in n ≡ cond b None None)) [ true ↦ refl | false ↦ refl ]
removed_among (h ∷ hs) id j =
    elim (h == id) as (λ b. (h == id) ≡ b →
    hold_in None (cond (not b) (h ∷ filter (λ g. not (g == id)) hs) (filter (λ g. not (g == id)) hs)) j
    ≡ cond (id == j) None (cond (cond (h == j) true (is_among hs j)) (Some Shared) None)) [
      | true ↦ λ e. removed_among hs id j ∙ (let same : h ≡ id = (unsigned_Decides h id).0 e in
          subst (λ k. cond (id == j) None (hold_in None hs j)
          ≡ cond (id == j) None (cond (cond (k == j) true (is_among hs j)) (Some Shared) None)) (sym same)
          (elim (id == j) as (λ b. cond b None (hold_in None hs j)
          ≡ cond b None (cond (cond b true (is_among hs j)) (Some Shared) None)) [ true ↦ refl | false ↦ refl ]))
      | false ↦ λ e. elim (h == j) as (λ b. (h == j) ≡ b →
          cond (cond b true (is_among (filter (λ g. not (g == id)) hs) j)) (Some Shared) None
          ≡ cond (id == j) None (cond (cond b true (is_among hs j)) (Some Shared) None)) [
            | true ↦ λ f. sym (ap (λ b. cond b None (Some Shared)) (differ h id j f e))
            | false ↦ λ f. removed_among hs id j
          ] refl
    ] refl

-- whether any are left
pub none_left : (hs : List ℕ) (empty : Bool) → empty ≡ (length hs == 0) → empty ≡ true → hs ≡ []
none_left [] empty is told = refl
none_left (h ∷ hs) empty is told =
    absurd (let none = (unsigned_Decides (length (h ∷ hs)) 0).0 (sym is ∙ told) in omega (arith, none))

pub some_left : (hs : List ℕ) (empty : Bool) → empty ≡ (length hs == 0) → empty ≡ false → hs ≢ []
some_left [] empty is told nothing = true≢false (sym is ∙ told)
some_left (h ∷ hs) empty is told nothing = cc

-- each of those beside each other keeps out one alone
pub first_excludes : (hs : List ℕ) →
    IsExcluder Exclusive (record { alone = None; beside = hs }) (slice_get hs 0)
first_excludes [] = λ j. refl
first_excludes (h ∷ hs) = subst
    (λ b. (let s : Option Mode = cond (cond b true (is_among hs h)) (Some Shared) None in IsSome s))
    (sym ((unsigned_Decides h h).1 refl)) refl

-- what nobody holds can be held
pub nobody_held : (mode : Mode) → CanHold mode nobody
nobody_held Shared = λ j e. cc
nobody_held Exclusive = λ j. refl

holds_itself : (id : ℕ) (m : Option Mode) (o : Option Mode) → cond (id == id) m o ≡ m
holds_itself id m o = ap (λ b. cond b m o) ((unsigned_Decides id id).1 refl)

-- whoever has one more holder has one
pub somebody : (old new : HoldersValue) (id : ℕ) (mode : Mode) → Reholds old new id (Some mode) → new ≡ nobody
    → ⊥
somebody old new id mode re none =
    absurd_none (sym (ap (λ h. hold_of h id) none) ∙ re id ∙ holds_itself id (Some mode) (hold_of old id))
  where
    absurd_none : None ≡ Some mode → ⊥
    absurd_none e = cc
