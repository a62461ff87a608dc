-- What calls in progress came with, in a table by host and hash: the table finds it by host and bytes.
use Rattle.std.proofs.Common.{◌≡◌, ℕ, Bool, true, false, cond, not, ◌&&◌, ◌||◌, nat_eq, List, [], ◌∷◌, ◌++◌}
use Rattle.std.proofs.Common.{Option, Some, None, IfSome, filter, refl, sym, ap, ◌∙◌, subst}
use Rattle.std.proofs.lemmas.Bool.{and_parts, eq-eqb, eqb-true}
use Rattle.std.proofs.lemmas.List.Folds.{list_any-append}
use Rattle.std.proofs.lemmas.Map.{NonePasses, lookup-none}
use Rattle.std.proofs.lemmas.Map.Keys.{IsDistinct-head, IsDistinct-tail}
use Rattle.std.proofs.lemmas.Map.Views.{any-filter_same}
use Rattle.std.specs.Cmp.Lexicographic.{bytes_decides}
use Rattle.std.specs.List.{AllByRecursion, IsDistinct}
use Rattle.std.specs.Map.{keys_of, lookup}
use Rattle.std.specs.Option.{option_map_or}
use Rattle.nfs_replies.specs.Entries.{AreFirst, key_of, origins_in, same_key}
use Rattle.nfs_replies.specs.Kept.{same_bytes}
use Rattle.nfs_replies.specs.Keys.{digest}
use Rattle.nfs_replies.specs.Origins.{Adds, Removes, is_among, same_origin}
use Rattle.nfs_replies.specs.declared.digest.RecordKey.{RecordKey}
use Rattle.nfs_replies.specs.declared.origins.OriginKey.{OriginKey}
use Rattle.nfs_replies.specs.declared.origins.Origin.{Origin}
use Rattle.nfs_replies.proofs.OneOriginLemmas.{same_equal, same_itself}

abbrev Table : Type 0
Table = List (OriginKey × List ℕ)

both : (x y : Bool) → x ≡ true → y ≡ true → (x && y) ≡ true
both x y e f = ap (λ t. t && y) e ∙ f

-- ---- keys
key_equal : (a b : OriginKey) → same_key a b ≡ true → a ≡ b
key_equal a b same = let parts = and_parts (same_bytes a.host b.host) (nat_eq a.hash b.hash) same in
    λ i. record {
      host = (bytes_decides a.host b.host).0 parts.0 i;
      hash = eqb-true a.hash b.hash parts.1 i;
    }

key_itself : (a b : OriginKey) → a ≡ b → same_key a b ≡ true
key_itself a b is = ap (same_key a) (sym is) ∙ both (same_bytes a.host a.host) (nat_eq a.hash a.hash)
    ((bytes_decides a.host a.host).1 refl) (eq-eqb a.hash a.hash refl)

-- ---- a table finds what is among its origins
abbrev IsHashed : RecordKey → Table → Type 0
IsHashed key es = (at : OriginKey) → IfSome (lookup (same_key at) es) (λ bytes. at.hash ≡ digest key bytes)

-- what a table has for an origin
abbrev has : RecordKey → Table → Origin → Bool
has key es o = option_map_or (same_bytes o.bytes) (lookup (same_key (key_of key o)) es) false

module _ (key : RecordKey) (e : OriginKey × List ℕ) (es : Table) (unique : IsDistinct same_key (keys_of (e ∷ es)))
    (hashed : IsHashed key (e ∷ es)) where
  -- no other entry has the first one's key
  elsewhere : (at : OriginKey) → same_key at e.0 ≡ true → lookup (same_key at) es ≡ None
  elsewhere at same = subst (λ (k : OriginKey). lookup (same_key k) es ≡ None) (sym (key_equal at e.0 same))
      (lookup-none (same_key e.0) es (by es (IsDistinct-head same_key e.0 (keys_of es) unique)))
    where
      by : (es : Table) → AllByRecursion (λ k. same_key e.0 k ≡ false) (keys_of es) → NonePasses (same_key e.0) es
      by [] h = tt
      by (x ∷ es) h = (h.0, by es h.1)

  rest-hashed : IsHashed key es
  rest-hashed at = (elim (same_key at e.0) as (λ b. same_key at e.0 ≡ b →
      IfSome (cond b (Some e.1) (lookup (same_key at) es)) (λ bytes. at.hash ≡ digest key bytes) →
      IfSome (lookup (same_key at) es) (λ bytes. at.hash ≡ digest key bytes)) [
        | true ↦ λ same h. subst (λ o. IfSome o (λ bytes. at.hash ≡ digest key bytes)) (sym (elsewhere at same)) tt
        | false ↦ λ other h. h
      ]) refl (hashed at)

  first-hashed : e.0.hash ≡ digest key e.1
  first-hashed = subst (λ b. IfSome (cond b (Some e.1) (lookup (same_key e.0) es))
      (λ bytes. e.0.hash ≡ digest key bytes)) (key_itself e.0 e.0 refl) (hashed e.0)

module _ (key : RecordKey) (o : Origin) where
  among-more : (e : OriginKey × List ℕ) (es : Table) → IsDistinct same_key (keys_of (e ∷ es)) →
      IsHashed key (e ∷ es) → is_among (origins_in es) o ≡ has key es o →
      is_among (origins_in (e ∷ es)) o ≡ has key (e ∷ es) o
  among-more e es unique hashed rest = (elim (same_key (key_of key o) e.0) as (λ b.
      same_key (key_of key o) e.0 ≡ b → is_among (origins_in (e ∷ es)) o ≡
      option_map_or (same_bytes o.bytes) (cond b (Some e.1) (lookup (same_key (key_of key o)) es)) false) [
        | true ↦ λ same. (
            let parts = and_parts (same_bytes o.host e.0.host) (nat_eq (digest key o.bytes) e.0.hash) same in
            ap (λ b. (b && same_bytes o.bytes e.1) || is_among (origins_in es) o) parts.0
            ∙ ap (λ b. same_bytes o.bytes e.1 || b) (rest
            ∙ ap (λ found. option_map_or (same_bytes o.bytes) found false)
            (elsewhere key e es unique hashed (key_of key o) same))
            ∙ or_false (same_bytes o.bytes e.1))
        | false ↦ λ other. ap (λ b. b || is_among (origins_in es) o) (not_first other) ∙ rest
      ]) refl
    where
      or_false : (b : Bool) → (b || false) ≡ b
      or_false true = refl
      or_false false = refl

      first : Origin
      first = record { host = e.0.host; bytes = e.1 }

      not_first : same_key (key_of key o) e.0 ≡ false → same_origin o first ≡ false
      not_first other = (elim (same_origin o first) as (λ b. same_origin o first ≡ b → b ≡ false) [
        | true ↦ λ same. (let is = same_equal o first same in
            sym (key_itself (key_of key o) e.0 (λ i. record {
              host = (ap (λ (p : Origin). p.host) is) i;
              hash = (ap (λ (p : Origin). digest key p.bytes) is ∙ sym (first-hashed key e es unique hashed)) i;
            })) ∙ other)
        | false ↦ λ _. refl
      ]) refl

  pub among : (es : Table) → IsDistinct same_key (keys_of es) → IsHashed key es →
      is_among (origins_in es) o ≡ has key es o
  among [] unique hashed = refl
  among (e ∷ es) unique hashed = among-more e es unique hashed
      (among es (IsDistinct-tail same_key e.0 (keys_of es) unique) (rest-hashed key e es unique hashed))

pub none-first : (key : RecordKey) → AreFirst key []
unfolding IsDistinct
none-first key = record { unique = tt; hashed = λ at. tt }

-- ---- what is seen of a table and of the others
module _ (key : RecordKey) (o : Origin) where
  -- the key by which it is looked up
  pub key-by : (hash : ℕ) → hash ≡ digest key o.bytes → record { host = o.host; hash = hash } ≡ key_of key o
  key-by hash hashed = λ i. record { host = o.host; hash = hashed i }

  -- whether what stands at a key has its bytes
  abbrev pub is_at : OriginKey → Table → Bool
  is_at k es = option_map_or (same_bytes o.bytes) (lookup (same_key k) es) false

  -- it is among them where it is the first of its host and hash, or one of the others
  pub first-or-other : (es : Table) → AreFirst key es → (k : OriginKey) → k ≡ key_of key o → (others : List Origin) →
      is_among (origins_in es ++ others) o ≡ (is_at k es || is_among others o)
  first-or-other es is k is-key others = list_any-append (same_origin o) (origins_in es) others
      ∙ ap (λ b. b || is_among others o) (among key o es is.unique is.hashed
      ∙ ap (λ k. is_at k es) (sym is-key))

pub same-turned : (a b : Origin) → same_origin a b ≡ same_origin b a
same-turned a b = by (same_origin a b) (same_origin b a)
    (λ e. same_itself b a (sym (same_equal a b e))) (λ e. same_itself a b (sym (same_equal b a e)))
  where
    by : (x y : Bool) → (x ≡ true → y ≡ true) → (y ≡ true → x ≡ true) → x ≡ y
    by true y f g = sym (f refl)
    by false true f g = g refl
    by false false f g = refl

-- two that differ in their keys differ, and of one key they are the same where their bytes are
module _ (key : RecordKey) (o p : Origin) where
  apart : same_key (key_of key o) (key_of key p) ≡ false → same_origin o p ≡ false
  apart other = (elim (same_origin o p) as (λ b. same_origin o p ≡ b → b ≡ false) [
    | true ↦ λ same. sym (key_itself (key_of key o) (key_of key p) (ap (key_of key) (same_equal o p same))) ∙ other
    | false ↦ λ _. refl
  ]) refl

  by-bytes : same_key (key_of key o) (key_of key p) ≡ true → same_bytes p.bytes o.bytes ≡ same_origin o p
  by-bytes same = (let parts = and_parts (same_bytes o.host p.host) (nat_eq (digest key o.bytes) (digest key p.bytes))
      same in ap (λ b. b && same_bytes p.bytes o.bytes) (sym ((bytes_decides p.host o.host).1
      (sym ((bytes_decides o.host p.host).0 parts.0)))) ∙ same-turned p o)

or_apart : (s h b : Bool) → ((s || h) || b) ≡ (s || (h || b))
or_apart true h b = refl
or_apart false h b = refl

module _ (key : RecordKey) (o : Origin) (k : OriginKey) (is-key : k ≡ key_of key o) (old new : Table)
    (is : AreFirst key old) where
  -- ---- one comes to a key at which none stood
  module _ (unique : IsDistinct same_key (keys_of new)) (bytes : List ℕ) (same : bytes ≡ o.bytes)
      (absent : lookup (same_key k) old ≡ None) (updates : (q : OriginKey) → lookup (same_key q) new ≡
      cond (same_key k q) (Some bytes) (lookup (same_key q) old)) where
    pub added-first : AreFirst key new
    added-first = record {
      unique = unique;
      hashed = λ at. subst (λ found. IfSome found (λ bytes. at.hash ≡ digest key bytes)) (sym (updates at))
          ((elim (same_key k at) as (λ b. same_key k at ≡ b →
          IfSome (cond b (Some bytes) (lookup (same_key at) old)) (λ bytes. at.hash ≡ digest key bytes)) [
            | true ↦ λ here. ap (λ (l : OriginKey). l.hash) (sym (key_equal k at here) ∙ is-key)
                ∙ ap (digest key) (sym same)
            | false ↦ λ other. is.hashed at
          ]) refl);
    }

    comes : (p : Origin) → is_at key p (key_of key p) new ≡ (same_origin o p || is_at key p (key_of key p) old)
    comes p = ap (λ found. option_map_or (same_bytes p.bytes) found false) (updates (key_of key p))
        ∙ (elim (same_key k (key_of key p)) as (λ b. same_key k (key_of key p) ≡ b →
        option_map_or (same_bytes p.bytes) (cond b (Some bytes) (lookup (same_key (key_of key p)) old)) false ≡
        (same_origin o p || is_at key p (key_of key p) old)) [
          | true ↦ λ here. (let none = subst (λ q. lookup (same_key q) old ≡ None) (key_equal k (key_of key p) here)
              absent in
              ap (same_bytes p.bytes) same
              ∙ by-bytes key o p (subst (λ q. same_key q (key_of key p) ≡ true) is-key here)
              ∙ sym (or_false (same_origin o p))
              ∙ ap (λ found. same_origin o p || option_map_or (same_bytes p.bytes) found false) (sym none))
          | false ↦ λ other. ap (λ b. b || is_at key p (key_of key p) old) (sym (apart key o p
              (subst (λ q. same_key q (key_of key p) ≡ false) is-key other)))
        ]) refl
      where
        or_false : (b : Bool) → (b || false) ≡ b
        or_false true = refl
        or_false false = refl

    pub adds-first : (others : List Origin) → Adds o (origins_in old ++ others) (origins_in new ++ others)
    adds-first others p = first-or-other key p new added-first (key_of key p) refl others
        ∙ ap (λ b. b || is_among others p) (comes p)
        ∙ or_apart (same_origin o p) (is_at key p (key_of key p) old) (is_among others p)
        ∙ ap (λ b. same_origin o p || b) (sym (first-or-other key p old is (key_of key p) refl others))

  -- ---- what is left of the others
  module _ (others left : List Origin)
      (without : Removes o others left) where
    gone : (s h h' b : Bool) → h' ≡ (not s && h) → (h' || (not s && b)) ≡ (not s && (h || b))
    gone true h h' b e = ap (λ x. x || false) e
    gone false h h' b e = ap (λ x. x || b) e

    -- none stood at its key
    pub stays-first : is_at key o k old ≡ false → Removes o (origins_in old ++ others) (origins_in old ++ left)
    stays-first absent p = first-or-other key p old is (key_of key p) refl left
        ∙ ap (λ b. is_at key p (key_of key p) old || b) (without p)
        ∙ gone (same_origin o p) (is_at key p (key_of key p) old) (is_at key p (key_of key p) old)
        (is_among others p) ((elim (same_origin o p) as (λ b. same_origin o p ≡ b →
        is_at key p (key_of key p) old ≡ (not b && is_at key p (key_of key p) old)) [
          | true ↦ λ same. (let one = same_equal o p same in
              subst (λ (q : Origin). is_at key q (key_of key q) old ≡ false) one
              (subst (λ q. is_at key o q old ≡ false) is-key absent))
          | false ↦ λ other. refl
        ]) refl)
        ∙ ap (λ b. not (same_origin o p) && b) (sym (first-or-other key p old is (key_of key p) refl others))

    -- it goes from its key
    module _ (unique : IsDistinct same_key (keys_of new)) (updates : (q : OriginKey) → lookup (same_key q) new ≡
        cond (same_key k q) None (lookup (same_key q) old)) where
      pub removed-first : AreFirst key new
      removed-first = record {
        unique = unique;
        hashed = λ at. subst (λ found. IfSome found (λ bytes. at.hash ≡ digest key bytes)) (sym (updates at))
            (elim (same_key k at) as (λ b. IfSome (cond b None (lookup (same_key at) old))
            (λ bytes. at.hash ≡ digest key bytes)) [ true ↦ tt | false ↦ is.hashed at ]);
      }

      module _ (there : is_at key o k old ≡ true) where
        goes : (p : Origin) → is_at key p (key_of key p) new ≡
            (not (same_origin o p) && is_at key p (key_of key p) old)
        goes p = ap (λ found. option_map_or (same_bytes p.bytes) found false) (updates (key_of key p))
            ∙ (elim (same_key k (key_of key p)) as (λ b. same_key k (key_of key p) ≡ b →
            option_map_or (same_bytes p.bytes) (cond b None (lookup (same_key (key_of key p)) old)) false ≡
            (not (same_origin o p) && is_at key p (key_of key p) old)) [
              | true ↦ λ here. of-bytes p here (lookup (same_key k) old) refl there
              | false ↦ λ other. ap (λ b. not b && is_at key p (key_of key p) old) (sym (apart key o p
                  (subst (λ q. same_key q (key_of key p) ≡ false) is-key other)))
            ]) refl
          where
            not_both : (b : Bool) → false ≡ (not b && b)
            not_both true = refl
            not_both false = refl

            of-bytes : (p : Origin) → same_key k (key_of key p) ≡ true → (found : Option (List ℕ)) →
                lookup (same_key k) old ≡ found → option_map_or (same_bytes o.bytes) found false ≡ true →
                false ≡ (not (same_origin o p) && is_at key p (key_of key p) old)
            of-bytes p here None is-found there = cc
            of-bytes p here (Some bytes) is-found there =
                not_both (same_origin o p)
                ∙ ap (λ b. not (same_origin o p) && b) (sym (
                ap (λ q. option_map_or (same_bytes p.bytes) (lookup (same_key q) old) false)
                (sym (key_equal k (key_of key p) here))
                ∙ ap (λ found. option_map_or (same_bytes p.bytes) found false) is-found
                ∙ ap (same_bytes p.bytes) (sym ((bytes_decides o.bytes bytes).0 there))
                ∙ by-bytes key o p (subst (λ q. same_key q (key_of key p) ≡ true) is-key here)
                ))

        pub removes-first : Removes o (origins_in old ++ others) (origins_in new ++ left)
        removes-first p = first-or-other key p new removed-first (key_of key p) refl left
            ∙ ap (λ b. is_at key p (key_of key p) new || b) (without p)
            ∙ gone (same_origin o p) (is_at key p (key_of key p) old) (is_at key p (key_of key p) new)
            (is_among others p) (goes p)
            ∙ ap (λ b. not (same_origin o p) && b) (sym (first-or-other key p old is (key_of key p) refl others))

-- what a retain leaves of the others
pub others-left : (o : Origin) (others : List Origin) →
    Removes o others (filter (λ x. not (same_origin x o)) others)
others-left o others p = any-filter_same (same_origin p) (λ x. not (same_origin x o)) (not (same_origin o p))
    (λ x same. ap (λ (q : Origin). not (same_origin q o)) (sym (same_equal p x same)) ∙ ap not (same-turned p o)) others
