-- What each step on one slot is for its shard, by where the slot stands.
use Rattle.std.proofs.Common.{◌≡◌, ◌≢◌, ℕ, ◌==◌, true, false, cond, map, get_or}
use Rattle.std.proofs.Common.{Option, Some, None, Result, IsSome, option_map, unwrap_or, refl}
use Rattle.std.proofs.Common.{sym, ◌∙◌, ap, subst}
use Rattle.std.proofs.Math.ListN.{get_or-map}
use Rattle.std.specs.Map.{lookup}
use Rattle.std.specs.Option.{option_and_then, option_or}
use Rattle.slab.specs.Slab.{Slab, Updates, get, with_value}
use Rattle.slab.proofs.SlabLemmas.{Updates-with_value}
use Rattle.nfs_tables.specs.Lending.{Rewrites}
use Rattle.nfs_tables.specs.Tables.{TableValue, entries}
use Rattle.nfs_tables.specs.Tables as tables
use Rattle.nfs_objects.specs.declared.address.Addr.{Addr}
use Rattle.nfs_objects.specs.declared.address.Addr.TheVariants.{Inode}
use Rattle.nfs_objects.specs.declared.modes.Mode.{Mode}
use Rattle.nfs_objects.specs.declared.object.Object.{Object}
use Rattle.nfs_objects.specs.Values.{is_addr}
use Rattle.std.specs.Arc.{arc_value}
use Rattle.nfs_engine.specs.Found.{Changes, found}
use Rattle.nfs_engine.specs.Holders.{CanHold, HoldersValue, IsExcluder, Reholds, hold_of, holders_value, nobody}
use Rattle.nfs_engine.specs.Shards.{Fills, IsHad, IsHeld, IsSlotHad, IsSlotLeft, IsSound, Retakes, SameShard}
use Rattle.nfs_engine.specs.Shards.{ShardValue, SlotValue, empty_slot, hold_at, key_in, number_at, numbered}
use Rattle.nfs_engine.specs.Shards.{shard_value, slot_at, slot_of, slot_value, slots_seen}
use Rattle.nfs_engine.specs.declared.shard.Had.{Had}
use Rattle.nfs_engine.specs.declared.slot.Slot.{Slot}
use Rattle.nfs_engine.proofs.AddressMapLemmas.{found-lookup, found-turned, same_address}
use Rattle.nfs_engine.proofs.NumberKeyLemmas.{address_there, is_addr-same}
use Rattle.nfs_engine.proofs.SlotPlaceLemmas.{Becomes, number_becomes, other_becomes}
use Rattle.nfs_engine.proofs.SlotChangeLemmas.{had, had_needed, held_needed, left, put, retaken, sound}
use Rattle.nfs_engine.proofs.HolderCountLemmas.{nobody_held, somebody}

pub changed_twice : {V : Type 0} (a : Addr) (f g h : Addr → V) (v w : V) → Changes f g a v → Changes g h a w
    → Changes f h a w
changed_twice a f g h v w first second b =
    second b ∙ elim (is_addr a b) as (λ t. g b ≡ cond t v (f b) → cond t w (g b) ≡ cond t w (f b)) [
      | true ↦ λ e. refl
      | false ↦ λ e. e
    ] (first b)

pub is_some : {X : Type 0} (o : Option X) (x : X) → o ≡ Some x → IsSome o
is_some o x e = subst (λ p. IsSome p) (sym e) refl

-- a slot that was there, and what it is now
module _ (old new : ShardValue) (a : Addr) (was now : SlotValue) (good : IsSound old)
    (here : slot_of old a ≡ Some was) where
  at : slot_at old a ≡ was
  at = ap (λ (x : Option SlotValue). unwrap_or x empty_slot) here

  pub needed : was ≢ empty_slot
  needed e = good.needed a (here ∙ ap (λ v. Some v) e)

  pub acquires : {E : Type 0} (mode : Mode) (id : ℕ) (r : Result Had E) → Becomes old new a (Some now)
      → IsSlotHad was now mode id r → IsSound new × IsHad old new a mode id r
  acquires {E} mode id r turn h = (
    sound old new a (Some now) turn good (λ e. had_needed was now mode id r h needed (same_some e)),
    had old new a (Some now) turn mode id r (subst (λ v. IsSlotHad {E = E} v now mode id r) (sym at) h),
  )
    where
      same_some : Some now ≡ Some empty_slot → now ≡ empty_slot
      same_some e = ap (λ o. unwrap_or o now) e

  pub stays : (id : ℕ) → Becomes old new a (Some now) → IsSlotLeft was now id → now ≢ empty_slot
      → IsSound new × Retakes old new a id None
  stays id turn h busy = (
    sound old new a (Some now) turn good (λ e. busy (ap (λ o. unwrap_or o now) e)),
    left old new a (Some now) turn id (subst (λ v. IsSlotLeft v now id) (sym at) h),
  )

  pub goes : (id : ℕ) → Becomes old new a None → IsSlotLeft was now id → now ≡ empty_slot → IsSound new
      × Retakes old new a id None
  goes id turn h idle = (
    sound old new a None turn good (λ e. cc),
    left old new a None turn id
        (subst (λ v. IsSlotLeft v empty_slot id) (sym at) (subst (λ v. IsSlotLeft was v id) idle h)),
  )

  pub fills : (o : Option Object) → Becomes old new a (Some now) → now.object ≡ o → now.holders ≡ was.holders
      → IsHeld old a → IsSound new × Fills old new a o
  fills o turn object holders held = (
    sound old new a (Some now) turn good (λ e. busy (ap (λ o. unwrap_or o now) e)),
    put old new a (Some now) turn o object (holders ∙ sym (ap (λ (s : SlotValue). s.holders) at)),
  )
    where
      busy : now ≢ empty_slot
      busy = held_needed now held.holder
          (subst (λ (h : HoldersValue). IsSome (hold_of h held.holder))
          (ap (λ (s : SlotValue). s.holders) at ∙ sym holders) held.holds)

-- who excludes a call, by the slot of the address
pub excluder_of : (s : ShardValue) (a : Addr) (mode : Mode) (o : Option SlotValue) (r : Option ℕ) → slot_of s a ≡ o →
    IsExcluder mode (unwrap_or o empty_slot).holders r → IsExcluder mode (slot_at s a).holders r
excluder_of s a mode o r is excluded =
    subst (λ (x : Option SlotValue). IsExcluder mode (unwrap_or x empty_slot).holders r) (sym is) excluded

module _ (index next : ℕ) (numbers : Slab Slot) (others : TableValue Addr Slot) (a : Addr) where
  abbrev before : ShardValue
  before = shard_value index numbers.slots (entries others) next

  -- the map has the entries that it had
  pub unslotted : (m : TableValue Addr Slot) → entries m ≡ entries others →
      SameShard before (shard_value index numbers.slots (entries m) next)
  unslotted m same = subst (λ es. SameShard before (shard_value index numbers.slots es next)) (sym same)
      (record { slots = λ b. refl; next_generation = refl; index = refl })

  -- the slot stands in the slab
  module _ (good : IsSound before) (key : ℕ) (at_key : key_in index a ≡ Some key) (was : Slot)
      (there : get numbers key ≡ Some was) where
    in_slab : numbered before a ≡ Some (slot_value was)
    in_slab = ap (option_and_then (λ k. get_or_none k)) at_key ∙ get_or-map
        (option_map slot_value) numbers.slots key None ∙ ap (option_map slot_value) there
      where
        get_or_none : ℕ → Option SlotValue
        get_or_none k = get_or (map (option_map slot_value) numbers.slots) k None

    pub number_here : slot_of before a ≡ Some (slot_value was)
    number_here = ap (λ x. option_or x (found (slots_seen (entries others)) a)) in_slab

    pub number_turns : (n : Slab Slot) (o : Option Slot) → Updates numbers n key o → Becomes before
        (shard_value index n.slots (entries others) next) a (option_map slot_value o)
    number_turns n o updates =
        (let is : a ≡ Inode (number_at index key) = address_there index a key at_key in
        let free : found (slots_seen (entries others)) a ≡ None = good.apart a
        (is_some (numbered before a) (slot_value was) in_slab) in
        subst (λ b. Becomes before (shard_value index n.slots (entries others) next) b (option_map slot_value o))
        (sym is)
        (number_becomes index next good.index numbers n (entries others) key o updates
        (subst (λ b. found (slots_seen (entries others)) b ≡ None) is free) good.apart))

    number_written : (w : Slot) → Becomes before
        (shard_value index (with_value numbers key w).slots (entries others) next) a (Some (slot_value w))
    number_written w = number_turns (with_value numbers key w) (Some w)
        (Updates-with_value numbers key w (is_some (get numbers key) was there))

    abbrev written : Slot → ShardValue
    written w = shard_value index (with_value numbers key w).slots (entries others) next

    pub number_acquires : {E : Type 0} (w : Slot) (mode : Mode) (id : ℕ) (r : Result Had E) → IsSlotHad
        (slot_value was) (slot_value w) mode id r
        → IsSound (written w) × IsHad before (written w) a mode id r
    number_acquires w mode id r h = acquires before (written w) a (slot_value was)
        (slot_value w) good number_here mode id r (number_written w) h

    pub number_fills : (w : Slot) → w.holders ≡ was.holders → IsHeld before a
        → IsSound (written w) × Fills before (written w) a (option_map arc_value w.object)
    number_fills w holders held =
        fills before (written w) a (slot_value was) (slot_value w) good number_here (option_map arc_value w.object)
        (number_written w) refl (ap holders_value holders) held

    pub number_stays : (w : Slot) (id : ℕ) → IsSlotLeft (slot_value was) (slot_value w) id
        → slot_value w ≢ empty_slot
        → IsSound (written w) × Retakes before (written w) a id None
    number_stays w id h busy = stays before (written w) a (slot_value was) (slot_value w) good number_here id
        (number_written w) h busy

    pub number_goes : (w : Slot) (id : ℕ) (n : Slab Slot) → IsSlotLeft (slot_value was) (slot_value w) id
        → slot_value w ≡ empty_slot → Updates (with_value numbers key w) n key None
        → IsSound (shard_value index n.slots (entries others) next) × Retakes before
        (shard_value index n.slots (entries others) next) a id None
    number_goes w id n h idle updates =
        goes before (shard_value index n.slots (entries others) next) a (slot_value was)
        (slot_value w) good number_here id
        (number_turns n None
        (twice numbers (with_value numbers key w) n key w
        (Updates-with_value numbers key w (is_some (get numbers key) was there)) updates)) h idle
      where
        twice : (m k n : Slab Slot) (key : ℕ) (w : Slot) → Updates m k key (Some w) → Updates k n key None
            → Updates m n key None
        twice m k n key w first second = record {
          changed = second.changed;
          others = λ other apart. second.others other apart ∙ first.others other apart;
        }

  -- it has none there
  module _ (good : IsSound before) (none : numbered before a ≡ None) where
    pub other_here : slot_of before a ≡ option_map slot_value (lookup (same_address a) (entries others))
    other_here = ap (λ x. option_or x (found (slots_seen (entries others)) a)) none
        ∙ found-lookup slot_value a (entries others)

    pub other_turns : (m : TableValue Addr Slot) (o : Option Slot) → tables.Changes same_address others m a o
        → Becomes before (shard_value index numbers.slots (entries m) next) a (option_map slot_value o)
    other_turns m o updates =
        other_becomes index next numbers.slots (entries others) (entries m) a (option_map slot_value o)
        (found-turned slot_value others m a o updates) none good.apart

    abbrev over : TableValue Addr Slot → ShardValue
    over m = shard_value index numbers.slots (entries m) next

    -- it has one in the map
    module _ (was : Slot) (there : Some was ≡ lookup (same_address a) (entries others)) (w : Slot)
        (m : TableValue Addr Slot) (writes : Rewrites same_address others m a w) where
      here : slot_of before a ≡ Some (slot_value was)
      here = other_here ∙ ap (option_map slot_value) (sym there)

      updates : tables.Changes same_address others m a (Some w)
      updates = writes.changes (is_some (lookup (same_address a) (entries others)) was (sym there))

      pub other_acquires : {E : Type 0} (mode : Mode) (id : ℕ) (r : Result Had E) → IsSlotHad (slot_value was)
          (slot_value w) mode id r → IsSound (over m) × IsHad before (over m) a mode id r
      other_acquires mode id r h = acquires before (over m) a (slot_value was) (slot_value w) good here mode id r
          (other_turns m (Some w) updates) h

      pub other_fills : w.holders ≡ was.holders → IsHeld before a
          → IsSound (over m) × Fills before (over m) a (option_map arc_value w.object)
      other_fills holders held =
          fills before (over m) a (slot_value was) (slot_value w) good here (option_map arc_value w.object)
          (other_turns m (Some w) updates) refl (ap holders_value holders) held

      pub other_stays : (id : ℕ) → IsSlotLeft (slot_value was) (slot_value w) id → slot_value w ≢ empty_slot
          → IsSound (over m) × Retakes before (over m) a id None
      other_stays id h busy = stays before (over m) a (slot_value was) (slot_value w) good here id
          (other_turns m (Some w) updates) h busy

      pub other_goes : (id : ℕ) (k : TableValue Addr Slot) → Changes (found (slots_seen (entries m)))
          (found (slots_seen (entries k))) a None
          → IsSlotLeft (slot_value was) (slot_value w) id → slot_value w ≡ empty_slot → IsSound (over k)
          × Retakes before (over k) a id None
      other_goes id k removes h idle =
          goes before (over k) a (slot_value was) (slot_value w) good here id
          (other_becomes index next numbers.slots (entries others) (entries k) a None
          (changed_twice a (found (slots_seen (entries others))) (found (slots_seen (entries m)))
          (found (slots_seen (entries k))) (Some (slot_value w)) None
          (found-turned slot_value others m a (Some w) updates) removes)
          none good.apart) h idle

    -- nor in the map
    module _ (absent : None ≡ lookup (same_address a) (entries others)) where
      gone : slot_at before a ≡ empty_slot
      gone = ap (λ (x : Option SlotValue). unwrap_or x empty_slot)
          (other_here ∙ ap (option_map slot_value) (sym absent))

      -- so anyone can hold it
      pub absent_free : (mode : Mode) → CanHold mode (slot_at before a).holders
      absent_free mode = subst (λ (v : SlotValue). CanHold mode v.holders) (sym gone) (nobody_held mode)

      -- and nobody holds it
      pub absent_held : IsHeld before a → ⊥
      absent_held held = held_needed empty_slot held.holder
          (subst (λ (v : SlotValue). IsSome (hold_of v.holders held.holder)) gone held.holds) refl

      stays_so : (id : ℕ) → Retakes before before a id None
      stays_so id = record {
        objects = λ b. refl;
        holds = λ b j. elim (is_addr a b) as
            (λ t. is_addr a b ≡ t → hold_at before b j ≡ cond t (cond (id == j) None (hold_at before b j))
            (hold_at before b j)) [
              | true ↦ λ same.
                  (let none : hold_at before b j ≡ None = ap (λ c. hold_at before c j)
                  (sym (is_addr-same a b same)) ∙
                  ap (λ (v : SlotValue). hold_of v.holders j) gone in
                  none ∙ elim (id == j) as
                  (λ t. (let n : Option Mode = None in n ≡ cond t None n)) [ true ↦ refl | false ↦ refl ] ∙
                  ap (λ o. cond (id == j) None o) (sym none))
              | false ↦ λ other. refl
            ] refl;
        next_generation = refl;
        index = refl;
      }

      -- so nobody lets it go
      pub absent_left : (id : ℕ) (m : TableValue Addr Slot) → m ≡ others → Retakes before (over m) a id None
      absent_left id m same = subst (λ (k : TableValue Addr Slot). Retakes before (over k) a id None) (sym same)
          (stays_so id)

      -- it gets a slot with one holder
      module _ (k m : TableValue Addr Slot) (w : Slot) (mode : Mode) (id : ℕ) (same : k ≡ others)
          (after : Changes (found (slots_seen (entries k))) (found (slots_seen (entries m))) a (Some (slot_value w)))
          (empty : (slot_value w).object ≡ None) (re : Reholds nobody (slot_value w).holders id (Some mode)) where
        turn : Becomes before (over m) a (Some (slot_value w))
        turn =
            other_becomes index next numbers.slots (entries others) (entries m) a (Some (slot_value w))
            (subst (λ (j : TableValue Addr Slot). Changes (found (slots_seen (entries j)))
            (found (slots_seen (entries m))) a (Some (slot_value w))) same after)
            none good.apart

        pub begins_sound : IsSound (over m)
        begins_sound =
            sound before (over m) a (Some (slot_value w)) turn good
            (λ e. somebody nobody (slot_value w).holders id mode re
            (ap (λ o. (unwrap_or o (slot_value w)).holders) e))

        pub begins : CanHold mode (slot_at before a).holders × Retakes before (over m) a id (Some mode) ×
            (None ≡ (slot_at before a).object)
        begins = (
          absent_free mode,
          retaken before (over m) a (Some (slot_value w)) turn id (Some mode)
              (empty ∙ sym (ap (λ (v : SlotValue). v.object) gone))
              (subst (λ (v : SlotValue). Reholds v.holders (slot_value w).holders id (Some mode)) (sym gone) re),
          sym (ap (λ (v : SlotValue). v.object) gone),
        )
