-- What stands at an address is another now, or it went with its slot, where nobody holds it.
use Rattle.std.proofs.Common.{◌≡◌, ◌≢◌, ℕ, true, false, cond, Option, Some, None, IsSome, option_map, unwrap_or}
use Rattle.std.proofs.Common.{refl, sym, ◌∙◌, ap, subst}
use Rattle.std.specs.Arc.{arc_value}
use Rattle.std.specs.Map.{lookup}
use Rattle.slab.specs.Slab.{Slab, Updates, get, with_value}
use Rattle.slab.proofs.SlabLemmas.{Updates-with_value}
use Rattle.nfs_tables.specs.Lending.{Rewrites}
use Rattle.nfs_tables.specs.Tables.{TableValue, entries}
use Rattle.nfs_objects.specs.Values.{is_addr}
use Rattle.nfs_objects.specs.declared.address.Addr.{Addr}
use Rattle.nfs_objects.specs.declared.object.Object.{Object}
use Rattle.nfs_engine.proofs.AddressMapLemmas.{found-turned, same_address}
use Rattle.nfs_engine.proofs.NumberKeyLemmas.{is_addr-same}
use Rattle.nfs_engine.proofs.SlotChangeLemmas.{put, sound}
use Rattle.nfs_engine.proofs.SlotPlaceLemmas.{Becomes, other_becomes}
use Rattle.nfs_engine.proofs.SlotStepLemmas.{changed_twice, is_some, number_here, number_turns, other_here, other_turns}
use Rattle.nfs_engine.specs.Found.{Changes, found}
use Rattle.nfs_engine.specs.Shards.{Fills, IsSound, ShardValue, SlotValue, empty_slot, key_in, numbered}
use Rattle.nfs_engine.specs.Shards.{shard_value, slot_at, slot_of, slot_value, slots_seen}
use Rattle.nfs_engine.specs.declared.slot.Slot.{Slot}

-- a slot that was there, and what it is now
module _ (old new : ShardValue) (a : Addr) (was now : SlotValue) (good : IsSound old)
    (here : slot_of old a ≡ Some was) (o : Option Object) (is : now ≡ record was { object = o }) where
  object : now.object ≡ o
  object = ap (λ (s : SlotValue). s.object) is

  holders : now.holders ≡ was.holders
  holders = ap (λ (s : SlotValue). s.holders) is

  at : slot_at old a ≡ was
  at = ap (λ (x : Option SlotValue). unwrap_or x empty_slot) here

  holders-at : now.holders ≡ (slot_at old a).holders
  holders-at = holders ∙ sym (ap (λ (s : SlotValue). s.holders) at)

  replaced : Becomes old new a (Some now) → now ≢ empty_slot → IsSound new × Fills old new a o
  replaced turn busy = (
    sound old new a (Some now) turn good (λ e. busy (ap (λ x. unwrap_or x now) e)),
    put old new a (Some now) turn o object holders-at,
  )

  taken : Becomes old new a None → now ≡ empty_slot → IsSound new × Fills old new a o
  taken turn idle = (
    sound old new a None turn good (λ e. cc),
    put old new a None turn o (sym (ap (λ (s : SlotValue). s.object) idle) ∙ object)
        (sym (ap (λ (s : SlotValue). s.holders) idle) ∙ holders-at),
  )

module _ (index next : ℕ) (numbers : Slab Slot) (others : TableValue Addr Slot) (a : Addr)
    (good : IsSound (shard_value index numbers.slots (entries others) next)) where
  abbrev before : ShardValue
  before = shard_value index numbers.slots (entries others) next

  -- the slot stands in the slab
  module _ (key : ℕ) (at_key : key_in index a ≡ Some key) (was : Slot) (there : get numbers key ≡ Some was)
      (w : Slot) (o : Option Object) (is : slot_value w ≡ record (slot_value was) { object = o }) where
    first : Updates numbers (with_value numbers key w) key (Some w)
    first = Updates-with_value numbers key w (is_some (get numbers key) was there)

    pub number_object : (slot_at before a).object ≡ option_map arc_value was.object
    number_object = ap (λ (x : Option SlotValue). (unwrap_or x empty_slot).object)
        (number_here index next numbers others a good key at_key was there)

    pub number_replaced : slot_value w ≢ empty_slot →
        IsSound (shard_value index (with_value numbers key w).slots (entries others) next) ×
        Fills before (shard_value index (with_value numbers key w).slots (entries others) next) a o
    number_replaced busy =
        replaced before (shard_value index (with_value numbers key w).slots (entries others) next) a (slot_value was)
        (slot_value w) good (number_here index next numbers others a good key at_key was there)
        o is
        (number_turns index next numbers others a good key at_key was there (with_value numbers key w) (Some w) first)
        busy

    pub number_taken : (n : Slab Slot) → Updates (with_value numbers key w) n key None → slot_value w ≡ empty_slot →
        IsSound (shard_value index n.slots (entries others) next) ×
        Fills before (shard_value index n.slots (entries others) next) a o
    number_taken n second idle =
        taken before (shard_value index n.slots (entries others) next) a (slot_value was)
        (slot_value w) good (number_here index next numbers others a good key at_key was there)
        o is
        (number_turns index next numbers others a good key at_key was there n None (record {
          changed = second.changed;
          others = λ other apart. second.others other apart ∙ first.others other apart;
        })) idle

  -- it has none there
  module _ (none : numbered before a ≡ None) where
    -- it has one in the map
    module _ (was : Slot) (there : Some was ≡ lookup (same_address a) (entries others)) (w : Slot)
        (m : TableValue Addr Slot) (writes : Rewrites same_address others m a w)
        (o : Option Object) (is : slot_value w ≡ record (slot_value was) { object = o }) where
      here : slot_of before a ≡ Some (slot_value was)
      here = other_here index next numbers others a good none ∙ ap (option_map slot_value) (sym there)

      pub other_object : (slot_at before a).object ≡ option_map arc_value was.object
      other_object = ap (λ (x : Option SlotValue). (unwrap_or x empty_slot).object) here

      pub other_replaced : slot_value w ≢ empty_slot →
          IsSound (shard_value index numbers.slots (entries m) next) ×
          Fills before (shard_value index numbers.slots (entries m) next) a o
      other_replaced busy =
          replaced before (shard_value index numbers.slots (entries m) next) a (slot_value was) (slot_value w) good here
          o is
          (other_turns index next numbers others a good none m (Some w)
          (writes.changes (is_some (lookup (same_address a) (entries others)) was (sym there)))) busy

      pub other_taken : (k : TableValue Addr Slot) →
          Changes (found (slots_seen (entries m))) (found (slots_seen (entries k))) a None → slot_value w ≡ empty_slot →
          IsSound (shard_value index numbers.slots (entries k) next) ×
          Fills before (shard_value index numbers.slots (entries k) next) a o
      other_taken k removes idle =
          taken before (shard_value index numbers.slots (entries k) next) a (slot_value was) (slot_value w) good here
          o is
          (other_becomes index next numbers.slots (entries others) (entries k) a None
          (changed_twice a (found (slots_seen (entries others))) (found (slots_seen (entries m)))
          (found (slots_seen (entries k))) (Some (slot_value w)) None
          (found-turned slot_value others m a (Some w)
          (writes.changes (is_some (lookup (same_address a) (entries others)) was (sym there)))) removes)
          none good.apart) idle

    -- nor in the map
    module _ (absent : None ≡ lookup (same_address a) (entries others)) where
      gone : slot_at before a ≡ empty_slot
      gone = ap (λ (x : Option SlotValue). unwrap_or x empty_slot)
          (other_here index next numbers others a good none ∙ ap (option_map slot_value) (sym absent))

      pub absent_object : None ≡ (slot_at before a).object
      absent_object = sym (ap (λ (s : SlotValue). s.object) gone)

      no-some : {X : Type 0} (x : Option X) → None ≡ x → IsSome x → ⊥
      no-some None e s = cc
      no-some (Some v) e s = cc

      nothing : (o : Option Object) → (IsSome o → IsSome (slot_at before a).object) → o ≡ None
      nothing None stands = refl
      nothing (Some v) stands = absurd (no-some (slot_at before a).object absent_object (stands refl))

      -- nothing can be put there, and nothing goes
      pub absent_stood : (o : Option Object) → (IsSome o → IsSome (slot_at before a).object) →
          o ≡ (slot_at before a).object
      absent_stood o stands = nothing o stands ∙ absent_object

      pub absent_replaced : (o : Option Object) → (IsSome o → IsSome (slot_at before a).object) →
          (m : TableValue Addr Slot) → m ≡ others →
          Fills before (shard_value index numbers.slots (entries m) next) a o
      absent_replaced o stands m same = subst (λ (k : TableValue Addr Slot).
          Fills before (shard_value index numbers.slots (entries k) next) a o) (sym same) (record {
            objects = λ b. elim (is_addr a b) as (λ t. is_addr a b ≡ t →
                (slot_at before b).object ≡ cond t o (slot_at before b).object) [
                  | true ↦ λ is. ap (λ c. (slot_at before c).object) (sym (is_addr-same a b is))
                      ∙ sym (absent_stood o stands)
                  | false ↦ λ other. refl
                ] refl;
            holds = λ b j. refl;
            next_generation = refl;
            index = refl;
          })
