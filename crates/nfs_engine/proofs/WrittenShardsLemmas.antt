-- Which shards are written.
use Rattle.std.proofs.Common.{◌≡◌, ◌≢◌, ℕ, ◌<◌, ◌+◌, ◌==◌, ◌||◌, Bool, true, false}
use Rattle.std.proofs.Common.{List, [], ◌∷◌, ◌++◌, get_or, set, length, map, take}
use Rattle.std.proofs.Common.{Option, refl, sym, ◌∙◌, ap}
use Rattle.std.specs.Cmp.{unsigned_Decides}
use Rattle.std.proofs.lemmas.List.{get_or-set_other, get_or-set_same, length-set, map-append, take_more}
use Rattle.nfs_objects.specs.Values.{write_value}
use Rattle.nfs_objects.specs.declared.address.Addr.{Addr}
use Rattle.nfs_objects.specs.declared.change.Write.{Write}
use Rattle.nfs_objects.specs.declared.object.Object.{Object}
use Rattle.nfs_engine.proofs.OneShardOfSixteenLemmas.{alike_or}
use Rattle.nfs_engine.specs.Engine.{ArePlaces, is_written}
use Rattle.nfs_engine.specs.Shards.{shard_of}

written_last : (ws : List (Addr × Option Object)) (w : Addr × Option Object) (k : ℕ) →
    is_written (ws ++ w ∷ []) k ≡ is_written ws k || (shard_of w.0 == k)
written_last [] w k = elim (shard_of w.0 == k) as (λ t. t || false ≡ false || t) [ true ↦ refl | false ↦ refl ]
written_last (v ∷ ws) w k = ap (λ t. (shard_of v.0 == k) || t) (written_last ws w k) ∙
    associates (shard_of v.0 == k) (is_written ws k) (shard_of w.0 == k)
  where
    associates : (a b c : Bool) → (a || (b || c)) ≡ ((a || b) || c)
    associates a b c = elim a as (λ a. (a || (b || c)) ≡ ((a || b) || c)) [ true ↦ refl | false ↦ refl ]

pub places_none : (written : List Bool) → length written ≡ 16 → ((k : ℕ) → get_or written k false ≡
    false) → ArePlaces [] written
places_none written sixteen none = record { sixteen = sixteen; are = none }

-- one more write
pub places_more : (ws : List (Addr × Option Object)) (w : Addr × Option Object) (written : List Bool) (i : ℕ) →
    ArePlaces ws written → i ≡ shard_of w.0 → i < length written → ArePlaces (ws ++ w ∷ [])
    (set written i true)
places_more ws w written i p where_is within = record {
  sixteen = length-set written i true ∙ p.sixteen;
  are = λ k. alike_or k i
      (λ same. ap (λ j. get_or (set written i true) j false) same ∙ get_or-set_same written i true false within ∙
      sym (written_last ws w k ∙ ap (λ t. is_written ws k || t)
      ((unsigned_Decides (shard_of w.0) k).1 (sym where_is ∙ sym same)) ∙ or_true (is_written ws k)))
      (λ apart. get_or-set_other written i k true false apart ∙ p.are k ∙
      sym (written_last ws w k ∙ ap (λ t. is_written ws k || t) (tests k apart) ∙ or_false (is_written ws k)));
}
  where
    or_true : (t : Bool) → (t || true) ≡ true
    or_true t = elim t as (λ t. (t || true) ≡ true) [ true ↦ refl | false ↦ refl ]

    or_false : (t : Bool) → (t || false) ≡ t
    or_false t = elim t as (λ t. (t || false) ≡ t) [ true ↦ refl | false ↦ refl ]

    tests : (k : ℕ) → k ≢ i → (shard_of w.0 == k) ≡ false
    tests k apart = elim (shard_of w.0 == k) as (λ t. (shard_of w.0 == k) ≡ t → t ≡ false) [
      | true ↦ λ e. absurd (apart (sym ((unsigned_Decides (shard_of w.0) k).0 e) ∙ sym where_is))
      | false ↦ λ e. refl
    ] refl

-- the writes so far, and one more
pub one_further : (ws : List Write) (i : ℕ) (d : Write) → i < length ws →
    map write_value (take (i + 1) ws) ≡ map write_value (take i ws) ++ write_value (get_or ws i d) ∷ []
one_further ws i d within = ap (map write_value) (take_more ws i d within) ∙ map-append write_value (take i ws)
    (get_or ws i d ∷ [])
