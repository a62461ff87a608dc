-- A slot that moves from the map into the slab, and a number that is reserved.
use Rattle.std.proofs.Common.{◌≡◌, ℕ, ◌+◌, ◌%◌, ◌<◌, ◌≤◌, ◌==◌, true, false, cond, List, [], arith}
use Rattle.std.proofs.Common.{Option, Some, None, IsSome, option_map, unwrap_or, refl, sym, ◌∙◌, ap, subst}
use Rattle.std.proofs.Math.ListN.{get_or-map}
use Rattle.std.specs.Map.{lookup}
use Rattle.std.specs.Option.{option_and_then, option_or}
use Rattle.slab.specs.Slab.{Slab, Updates, get}
use Rattle.nfs_tables.specs.Tables.{TableValue, entries}
use Rattle.nfs_tables.specs.Tables as tables
use Rattle.nfs_objects.specs.declared.address.Addr.{Addr}
use Rattle.nfs_objects.specs.declared.address.Addr.TheVariants.{Inode}
use Rattle.nfs_objects.specs.declared.modes.Mode.TheVariants.{Exclusive}
use Rattle.nfs_objects.specs.Values.{is_addr}
use Rattle.nfs_engine.specs.declared.holders.Holders.TheVariants as holders
use Rattle.nfs_engine.specs.declared.slot.Slot.{Slot}
use Rattle.nfs_engine.specs.Found.{found}
use Rattle.nfs_engine.specs.Holders.{hold_of}
use Rattle.nfs_engine.specs.Numbers.{IsFreeNumber, Moves}
use Rattle.nfs_engine.specs.Shards.{IsSound, Reserves, ShardValue, SlotValue, empty_slot, hold_at, number_at}
use Rattle.nfs_engine.specs.Shards.{numbered, shard_value, slot_at, slot_of, slot_value, slots_seen}
use Rattle.nfs_engine.proofs.AddressMapLemmas.{found-turned, found-lookup, same_address}
use Rattle.nfs_objects.proofs.SeenLemmas.{is_addr-refl}
use Rattle.nfs_engine.proofs.NumberKeyLemmas.{is_addr-same, key_there, rest}
use Rattle.nfs_engine.proofs.SlotPlaceLemmas.{Becomes, at_key, number_becomes, numbered_changed}
use Rattle.nfs_engine.proofs.SlotChangeLemmas.{slot_changed, sound}

-- a number that was taken out of the map is not in it
pub not_found : (m k : TableValue Addr Slot) (n : ℕ) → tables.Changes same_address m k (Inode n) None →
    found (slots_seen (entries k)) (Inode n) ≡ None
not_found m k n removes =
    found-turned slot_value m k (Inode n) None removes (Inode n)
    ∙ ap (λ b. cond b None (found (slots_seen (entries m)) (Inode n))) (is_addr-refl (Inode n))

-- nothing stands at a vacant key
vacant_key : (index : ℕ) (m : Slab Slot) (es : List (Addr × Slot)) (key : ℕ) → index < 16 → get m key ≡ None
    → numbered (shard_value index m.slots es 0) (Inode (number_at index key)) ≡ None
vacant_key index m es key small vacant =
    ap (option_and_then (at_key m.slots)) (key_there index key small) ∙ get_or-map
    (option_map slot_value) m.slots key None ∙ ap (option_map slot_value) vacant

module _ (index : ℕ) (small : index < 16) (m n : Slab Slot) (others left : TableValue Addr Slot)
    (key number : ℕ) (slot : Slot)
    (vacant : get m key ≡ None) (updates : Updates m n key (Some slot))
    (is : number ≡ number_at index key)
    (there : Some slot ≡ lookup (same_address (Inode number)) (entries others))
    (removes : tables.Changes same_address others left (Inode number) None) where
  abbrev old : ShardValue
  old = shard_value index m.slots (entries others) 0

  abbrev new : ShardValue
  new = shard_value index n.slots (entries left) 0

  abbrev a : Addr
  a = Inode number

  put_in : (b : Addr) → numbered new b ≡ cond (is_addr a b) (Some (slot_value slot)) (numbered old b)
  put_in b =
      numbered_changed index 0 small m n (entries others) key (Some slot) updates b
      ∙ ap (λ p. cond (is_addr (Inode p) b) (Some (slot_value slot)) (numbered old b)) (sym is)

  no_slot : numbered old a ≡ None
  no_slot = ap (λ p. numbered old (Inode p)) is ∙ vacant_key index m (entries others) key small vacant

  taken_out : (b : Addr) → found (slots_seen (entries left)) b ≡ cond (is_addr a b) None
      (found (slots_seen (entries others)) b)
  taken_out b = found-turned slot_value others left a None removes b

  pub moved : Moves old new
  moved = record {
    slots = λ b. (λ i. option_or (put_in b i) (taken_out b i)) ∙ elim (is_addr a b) as (λ t. is_addr a b ≡ t →
        option_or (cond t (Some (slot_value slot)) (numbered old b))
        (cond t None (found (slots_seen (entries others)) b))
        ≡ slot_of old b) [
          | true ↦ λ same.
              sym (ap (slot_of old) (sym (is_addr-same a b same)) ∙
              ap (λ x. option_or x (found (slots_seen (entries others)) a)) no_slot
              ∙ found-lookup slot_value a (entries others) ∙ ap (option_map slot_value) (sym there))
          | false ↦ λ apart. refl
        ] refl;
    apart = λ was b some. taken_out b ∙ elim (is_addr a b) as
        (λ t. IsSome (cond t (Some (slot_value slot)) (numbered old b)) → cond t None
        (found (slots_seen (entries others)) b) ≡ None) [
          | true ↦ λ is. refl
          | false ↦ λ is. was b is
        ] (subst (λ x. IsSome x) (put_in b) some);
  }

-- the slab may have more room
pub moved_from : (index : ℕ) (m n : Slab Slot) (es : List (Addr × Slot)) (t : ShardValue) → n.slots ≡ m.slots
    → Moves (shard_value index n.slots es 0) t → Moves (shard_value index m.slots es 0) t
moved_from index m n es t same moves = subst (λ ns. Moves (shard_value index ns es 0) t) same moves

pub moved_twice : (s t u : ShardValue) → Moves s t → Moves t u → Moves s u
moved_twice s t u first second = record {
  slots = λ b. second.slots b ∙ first.slots b;
  apart = λ was. second.apart (first.apart was);
}

-- taking out an address that the map lacks changes nothing
pub unmoved : (index : ℕ) (ns : List (Option Slot)) (others left : TableValue Addr Slot) (a : Addr)
    → lookup (same_address a) (entries others) ≡ None → tables.Changes same_address others left a None
    → Moves (shard_value index ns (entries others) 0) (shard_value index ns (entries left) 0)
unmoved index ns others left a none removes = record {
  slots = λ b. ap (option_or (numbered (shard_value index ns (entries others) 0) b)) (still b);
  apart = λ was b some. still b ∙ was b some;
}
  where
    still : (b : Addr) → found (slots_seen (entries left)) b ≡ found (slots_seen (entries others)) b
    still b =
        found-turned slot_value others left a None removes b
        ∙ elim (is_addr a b) as (λ t. is_addr a b ≡ t → cond t None (found (slots_seen (entries others)) b)
        ≡ found (slots_seen (entries others)) b) [
          | true ↦ λ same.
              sym (ap (found (slots_seen (entries others))) (sym (is_addr-same a b same))
              ∙ found-lookup slot_value a (entries others) ∙ ap (option_map slot_value) none)
          | false ↦ λ apart. refl
        ] refl

module _ (index next : ℕ) (numbers room now : Slab Slot) (others left : TableValue Addr Slot)
    (number id key : ℕ)
    (good : IsSound (shard_value index numbers.slots (entries others) next))
    (moves : Moves (shard_value index numbers.slots (entries others) 0) (shard_value index room.slots (entries left) 0))
    (free : IsFreeNumber index room (entries left) number) (is_key : key ≡ room.vacant_key)
    (vacant : get room key ≡ None)
    (updates : Updates room now key (Some (record { object = None; holders = holders.One id }))) where
  abbrev before : ShardValue
  before = shard_value index numbers.slots (entries others) next

  abbrev between : ShardValue
  between = shard_value index room.slots (entries left) next

  abbrev after : ShardValue
  after = shard_value index now.slots (entries left) next

  abbrev last : ShardValue
  last = shard_value index now.slots (entries left) (next + 1)

  abbrev taken : SlotValue
  taken = record { object = None; holders = record { alone = Some id; beside = [] } }

  is : number ≡ number_at index key
  is = free.key ∙ ap (number_at index) (sym is_key)

  middle : IsSound between
  middle = record {
    index = good.index;
    apart = moves.apart good.apart;
    needed = λ b e. good.needed b (sym (moves.slots b) ∙ e);
  }

  turn : Becomes between after (Inode (number_at index key)) (Some taken)
  turn = number_becomes index next good.index room now (entries left) key
      (Some (record { object = None; holders = holders.One id })) updates
      (subst (λ n. found (slots_seen (entries left)) (Inode n) ≡ None) is free.free) middle.apart

  no_empty : Some taken ≡ Some empty_slot → ⊥
  no_empty e = alone (ap (λ o. (unwrap_or o taken).holders.alone) e)
    where
      alone : Some id ≡ None → ⊥
      alone f = cc

  empty : slot_at before (Inode (number_at index key)) ≡ empty_slot
  empty =
      ap (λ (x : Option SlotValue). unwrap_or x empty_slot)
      (sym (moves.slots (Inode (number_at index key)))
      ∙ (λ i. option_or (vacant_key index room (entries left) key good.index vacant i)
      (subst (λ n. found (slots_seen (entries left)) (Inode n) ≡ None) is free.free i)))

  same_slots : (b : Addr) → slot_at between b ≡ slot_at before b
  same_slots b = ap (λ (x : Option SlotValue). unwrap_or x empty_slot) (moves.slots b)

  changed : (b : Addr) → slot_at after b ≡ cond (is_addr (Inode (number_at index key)) b) taken (slot_at before b)
  changed b =
      slot_changed between after (Inode (number_at index key)) (Some taken) turn b
      ∙ ap (cond (is_addr (Inode (number_at index key)) b) taken) (same_slots b)

  pub reserved_sound : IsSound last
  reserved_sound =
      (let after_sound = sound between after (Inode (number_at index key)) (Some taken) turn middle no_empty in
      record { index = after_sound.index; apart = after_sound.apart; needed = after_sound.needed })

  pub reserves : Reserves before last id (record { number = number; generation = next })
  reserves = record {
    from = (let above : 16 ≤ number_at index key = omega arith in omega (arith, is));
    shard = ap (λ n. n % 16) is ∙ rest index key good.index;
    empty = ap (λ n. slot_at before (Inode n)) is ∙ empty;
    generation = refl;
    objects = λ b. ap (λ (s : SlotValue). s.object) (changed b) ∙ elim (is_addr (Inode (number_at index key)) b) as
        (λ t. is_addr (Inode (number_at index key)) b ≡ t →
        (cond t taken (slot_at before b)).object ≡ (slot_at before b).object) [
          | true ↦ λ e.
              sym (ap (λ c. (slot_at before c).object) (sym (is_addr-same (Inode (number_at index key)) b e)) ∙
              ap (λ (s : SlotValue). s.object) empty)
          | false ↦ λ e. refl
        ] refl;
    holds = λ b j. ap (λ (s : SlotValue). hold_of s.holders j) (changed b)
        ∙ elim (is_addr (Inode (number_at index key)) b) as
        (λ t. hold_of (cond t taken (slot_at before b)).holders j ≡ cond t (cond (id == j) (Some Exclusive) None)
        (hold_at before b j)) [
          | true ↦ refl
          | false ↦ refl
        ]
        ∙ ap (λ n. cond (is_addr (Inode n) b) (cond (id == j) (Some Exclusive) None) (hold_at before b j)) (sym is);
    next_generation = refl;
    index = refl;
  }
