-- Two lists of entries behind each other: what stands at a key, and what a change of one of them makes of both.
use Rattle.std.proofs.Common.{◌≡◌, ◌++◌, ◌∷◌, [], Bool, true, false, cond, List, Option, Some, None, IsSome, is_some}
use Rattle.std.proofs.Common.{refl, sym, ◌∙◌, ap, subst, true≢false}
use Rattle.std.proofs.lemmas.Map.{NonePasses, none_passes_from_lookup}
use Rattle.std.specs.Prelude.{OnOk, Ok, Result}
use Rattle.std.specs.Cmp.{IsEquivalence}
use Rattle.std.specs.List.{AllByRecursion, IsDistinct}
use Rattle.std.specs.Map.{keys_of, lookup}
use Rattle.std.specs.Option.{option_or}
use Rattle.nfs_tables.specs.Tables.{Apart}

-- what stands in one of them, or in the other
pub lookup-append : {K V : Type 0} (test : K → Bool) (xs ys : List (K × V)) →
    lookup test (xs ++ ys) ≡ option_or (lookup test xs) (lookup test ys)
lookup-append test [] ys = refl
lookup-append test (e ∷ xs) ys = elim (test e.0) as
    (λ t. cond t (Some e.1) (lookup test (xs ++ ys))
    ≡ option_or (cond t (Some e.1) (lookup test xs)) (lookup test ys)) [
      | true ↦ refl
      | false ↦ lookup-append test xs ys
    ]

pub or-none : {V : Type 0} (o : Option V) → option_or o None ≡ o
or-none None = refl
or-none (Some v) = refl

pub so-ok : {A E : Type 0} {P : Type 0} {r : Result A E} {x : A} → r ≡ Ok x → OnOk r P → P
so-ok {P = P} is holds = subst (λ o. OnOk o P) is holds

module _ {K V : Type 0} (eq : K → K → Bool) where
  -- this stands at a key then, and at each other what stood there
  abbrev pub Became : List (K × V) → List (K × V) → K → Option V → Type 0
  Became old new k v = (q : K) → lookup (eq q) new ≡ cond (eq k q) v (lookup (eq q) old)

  module _ (xs ys : List (K × V)) (k : K) where
    pub found-second : Apart eq xs ys → (v : V) → Some v ≡ lookup (eq k) ys → Some v ≡ lookup (eq k) (xs ++ ys)
    found-second apart v there = by (lookup (eq k) xs) refl
      where
        by : (o : Option V) → lookup (eq k) xs ≡ o → Some v ≡ lookup (eq k) (xs ++ ys)
        by None none = there ∙ sym (lookup-append (eq k) xs ys ∙ ap (λ o. option_or o (lookup (eq k) ys)) none)
        by (Some w) some = absurd (cc (there, apart k (ap is_some some)))

    pub found-first : lookup (eq k) ys ≡ None → lookup (eq k) xs ≡ lookup (eq k) (xs ++ ys)
    found-first none =
        sym (lookup-append (eq k) xs ys ∙ ap (option_or (lookup (eq k) xs)) none ∙ or-none (lookup (eq k) xs))

    pub absent-there : Apart eq xs ys → (v : V) → Some v ≡ lookup (eq k) ys → lookup (eq k) xs ≡ None
    absent-there apart v there = by (lookup (eq k) xs) refl
      where
        by : (o : Option V) → lookup (eq k) xs ≡ o → o ≡ None
        by None none = refl
        by (Some w) some = absurd (cc (there, apart k (ap is_some some)))

    -- what is in neither is not in the first, nor in the second
    pub absent-first : lookup (eq k) (xs ++ ys) ≡ None → lookup (eq k) xs ≡ None
    absent-first none = by (lookup (eq k) xs) refl
      where
        by : (o : Option V) → lookup (eq k) xs ≡ o → o ≡ None
        by None there = refl
        by (Some v) there =
            absurd (cc (ap (λ o. option_or o (lookup (eq k) ys)) (sym there), lookup-append (eq k) xs ys, none))

  module _ (laws : IsEquivalence eq) where
    -- keys that are equal find the same
    lookup-equal : (k q : K) → eq k q ≡ true → (es : List (K × V)) → lookup (eq q) es ≡ lookup (eq k) es
    lookup-equal k q same es = λ i. lookup (λ y. sym (laws.congr k q y same) i) es

    module _ (xs ys : List (K × V)) (k : K) (v : Option V) where
      -- the second changed, where the first lacks the key
      module _ (absent : lookup (eq k) xs ≡ None) (later : List (K × V)) (became : Became ys later k v) where
        pub second-became : Became (xs ++ ys) (xs ++ later) k v
        second-became q =
            lookup-append (eq q) xs later ∙ ap (option_or (lookup (eq q) xs)) (became q) ∙ by (eq k q) refl
          where
            by : (t : Bool) → eq k q ≡ t →
                option_or (lookup (eq q) xs) (cond t v (lookup (eq q) ys)) ≡ cond t v (lookup (eq q) (xs ++ ys))
            by true same = ap (λ o. option_or o v) (lookup-equal k q same xs ∙ absent)
            by false other = sym (lookup-append (eq q) xs ys)

        pub second-apart : Apart eq xs ys → Apart eq xs later
        second-apart apart q there = became q ∙ by (eq k q) refl
          where
            by : (t : Bool) → eq k q ≡ t → cond t v (lookup (eq q) ys) ≡ None
            by true same =
                absurd (true≢false (sym there ∙ ap (λ (o : Option V). is_some o) (lookup-equal k q same xs ∙ absent)))
            by false other = apart q there

      -- the first changed, where the second lacks the key
      pub first-became : lookup (eq k) ys ≡ None → (later : List (K × V)) → Became xs later k v →
          Became (xs ++ ys) (later ++ ys) k v
      first-became absent later became q =
          lookup-append (eq q) later ys ∙ ap (λ o. option_or o (lookup (eq q) ys)) (became q) ∙ by (eq k q) refl
        where
          by : (t : Bool) → eq k q ≡ t →
              option_or (cond t v (lookup (eq q) xs)) (lookup (eq q) ys) ≡ cond t v (lookup (eq q) (xs ++ ys))
          by true same = ap (option_or v) (lookup-equal k q same ys ∙ absent) ∙ or-none v
          by false other = sym (lookup-append (eq q) xs ys)

    -- an entry went from the first
    left : (t : Bool) (o : Option V) → IsSome (cond t None o) → (t ≡ false) × IsSome o
    left true o is = cc
    left false o is = (refl, is)

    pub first-apart : (xs ys later : List (K × V)) (k : K) → Apart eq xs ys → Became xs later k None → Apart eq later ys
    first-apart xs ys later k apart became q there =
        apart q (left (eq k q) (lookup (eq q) xs) (subst (λ o. IsSome o) (became q) there)).1

    -- the last of the first list went to the second
    module _ (xs ys fewer more : List (K × V)) (k : K) (v : V) (is : xs ≡ fewer ++ (k, v) ∷ [])
        (gone : Became xs fewer k None) (came : Became ys more k (Some v)) where
      last-was : lookup (eq k) xs ≡ Some v
      last-was =
          ap (lookup (eq k)) is
          ∙ lookup-append (eq k) fewer ((k, v) ∷ [])
          ∙ ap (λ o. option_or o (cond (eq k k) (Some v) None))
          (gone k ∙ ap (λ t. cond t None (lookup (eq k) xs)) (laws.refl k))
          ∙ ap (λ t. cond t (Some v) None) (laws.refl k)

      pub moved-same : (q : K) → lookup (eq q) (fewer ++ more) ≡ lookup (eq q) (xs ++ ys)
      moved-same q =
          lookup-append (eq q) fewer more
          ∙ (λ i. option_or (gone q i) (came q i))
          ∙ by (eq k q) refl
          ∙ sym (lookup-append (eq q) xs ys)
        where
          by : (t : Bool) → eq k q ≡ t →
              option_or (cond t None (lookup (eq q) xs)) (cond t (Some v) (lookup (eq q) ys))
              ≡ option_or (lookup (eq q) xs) (lookup (eq q) ys)
          by true same = ap (λ o. option_or o (lookup (eq q) ys)) (sym (lookup-equal k q same xs ∙ last-was))
          by false other = refl

    -- each key stands once
    keys-apart : (test : K → Bool) (ys : List (K × V)) → NonePasses test ys →
        AllByRecursion (λ y. test y ≡ false) (keys_of ys)
    keys-apart test [] none = none
    keys-apart test (e ∷ ys) none = (none.0, keys-apart test ys none.1)

    both-apart : (test : K → Bool) (xs ys : List (K × V)) → AllByRecursion (λ y. test y ≡ false) (keys_of xs) →
        NonePasses test ys → AllByRecursion (λ y. test y ≡ false) (keys_of (xs ++ ys))
    both-apart test [] ys all none = keys-apart test ys none
    both-apart test (e ∷ xs) ys all none = (all.0, both-apart test xs ys all.1 none)

    more-there : (t : Bool) (v : V) (o : Option V) → IsSome o → IsSome (cond t (Some v) o)
    more-there true v o there = refl
    more-there false v o there = there

    pub distinct-append : (xs ys : List (K × V)) → IsDistinct eq (keys_of xs) → IsDistinct eq (keys_of ys) →
        Apart eq xs ys → IsDistinct eq (keys_of (xs ++ ys))
    unfolding IsDistinct
    distinct-append [] ys first second apart = second
    distinct-append (e ∷ xs) ys first second apart = (
      both-apart (eq e.0) xs ys first.0 (none_passes_from_lookup (eq e.0) ys
          (apart e.0 (ap (λ t. is_some (cond t (Some e.1) (lookup (eq e.0) xs))) (laws.refl e.0)))),
      distinct-append xs ys first.1 second
          (λ k there. apart k (more-there (eq k e.0) e.1 (lookup (eq k) xs) there)),
    )
