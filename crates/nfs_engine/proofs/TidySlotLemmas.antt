-- Slots after a write, and those in which nothing is kept.
use Rattle.std.proofs.Common.{◌≡◌, ℕ, ◌+◌, ◌<◌, ◌≤◌, ◌==◌, ◌&&◌, ◌||◌, not, Bool, true, false, cond, max, List, [], ◌∷◌}
use Rattle.std.proofs.Common.{drop, get_or, length, map, suc, Option, Some, None, IsSome, is_some, option_map}
use Rattle.std.proofs.Common.{unwrap_or, true≢false}
use Rattle.std.proofs.Common.{refl, sym, ◌∙◌, ap, subst, arith}
use Rattle.std.proofs.Math.ListN.{get_or-map}
use Rattle.std.proofs.Math.Seq.{drop-cons}
use Rattle.std.proofs.lemmas.List.{length-map}
use Rattle.std.specs.Arc.{arc_value}
use Rattle.std.specs.Cmp.{unsigned_Decides}
use Rattle.std.specs.Map.{lookup}
use Rattle.nfs_tables.specs.Lending.{Rewrites}
use Rattle.nfs_tables.specs.Tables as tables
use Rattle.nfs_objects.proofs.SeenLemmas.{is_addr-same}
use Rattle.nfs_objects.specs.Store.{Store, with_write, with_writes}
use Rattle.nfs_objects.specs.Values.{is_addr, write_value}
use Rattle.nfs_objects.specs.declared.address.Addr.{Addr}
use Rattle.nfs_objects.specs.declared.address.Addr.TheVariants.{Inode}
use Rattle.nfs_objects.specs.declared.change.Write.{Write}
use Rattle.nfs_objects.specs.declared.object.Object.{Object}
use Rattle.nfs_engine.proofs.AddressMapLemmas.{found-lookup, found-turned, same_address, seen}
use Rattle.nfs_engine.proofs.SlotNeedLemmas.{needed-cons, needed-fewer}
use Rattle.nfs_engine.proofs.StandingCountLemmas.{given-some}
use Rattle.nfs_engine.proofs.StoreWriteLemmas.{filled_store, gone-as, gone_store}
use Rattle.nfs_engine.specs.Found.{Changes, found}
use Rattle.nfs_engine.specs.Standing.{HasObjects}
use Rattle.nfs_engine.specs.Tables.{IsTidy, IsTidyBut, KeepsSlots, KeptValue, Puts, TakesOutIdle, empty_kept, filled}
use Rattle.nfs_engine.specs.Tables.{generation_in, idle_at, is_idle, is_taken, kept_at, kept_value, needs_slot}
use Rattle.nfs_engine.specs.Tables.{slots_needed, store_of}
use Rattle.nfs_engine.specs.Tables.{takes_from}
use Rattle.nfs_engine.specs.declared.objects.StoredObject.{StoredObject}

abbrev Slots : Type 0
Slots = List (Addr × KeptValue)

abbrev pub Writes : Type 0
Writes = List (Addr × Option Object)

-- what a write leaves in its slot
abbrev left_of : Option KeptValue → Option Object → Option KeptValue
left_of was o = cond (is_some was || is_some o) (Some (filled (unwrap_or was empty_kept) o)) None

-- whether a slot is there in which nothing is kept
abbrev idle_of : Option KeptValue → Bool
idle_of k = is_some k && is_idle (unwrap_or k empty_kept)

nothing-kept : (k : KeptValue) → is_idle k ≡ true → k ≡ empty_kept
nothing-kept k is = λ i. record {
  object = none k.object (first (not (is_some k.object)) (k.last == 0) is) i;
  last = (unsigned_Decides k.last 0).0 (second (not (is_some k.object)) (k.last == 0) is) i;
}
  where
    first : (a b : Bool) → (a && b) ≡ true → a ≡ true
    first true b both = refl
    first false b both = cc

    second : (a b : Bool) → (a && b) ≡ true → b ≡ true
    second true b both = both
    second false b both = cc

    none : (o : Option Object) → not (is_some o) ≡ true → o ≡ None
    none None nay = refl
    none (Some o) nay = cc

-- ---- one write
module _ (old new : Slots) (w : Addr × Option Object) (puts : Puts old new w) where
  at : (b : Addr) → found new b ≡ cond (is_addr w.0 b) (left_of (found old w.0) w.1) (found old b)
  at = puts

  -- it is written to the store
  pub puts-store : store_of new ≡ with_write (store_of old) w.0 w.1
  puts-store = by (found old w.0) refl w.1 refl
    where
      by : (was : Option KeptValue) → found old w.0 ≡ was → (o : Option Object) → w.1 ≡ o →
          store_of new ≡ with_write (store_of old) w.0 w.1
      by (Some k) there o is = filled_store old new w.0 w.1
          (subst (λ (t : Bool). Changes (found old) (found new) w.0 (cond t (Some (filled (kept_at old w.0) w.1)) None))
          (ap (λ (x : Option KeptValue). is_some x || is_some w.1) there) puts)
      by None absent (Some o) is = filled_store old new w.0 w.1
          (subst (λ (t : Bool). Changes (found old) (found new) w.0 (cond t (Some (filled (kept_at old w.0) w.1)) None))
          ((λ i. is_some (absent i) || is_some (is i))) puts)
      by None absent None is = gone_store old new w.0 w.1
          (subst (λ (t : Bool). Changes (found old) (found new) w.0 (cond t (Some (filled (kept_at old w.0) w.1)) None))
          ((λ i. is_some (absent i) || is_some (is i))) puts)
          (gone-as (kept_at old w.0) (ap (λ (x : Option KeptValue). (unwrap_or x empty_kept).last) absent)
          ∙ ap (filled (kept_at old w.0)) (sym is))

  -- each slot stays
  pub puts-keeps : KeepsSlots old new
  puts-keeps b there = subst IsSome (sym (at b)) (by (is_addr w.0 b) refl)
    where
      stays : (was : Option KeptValue) (o : Option Object) → IsSome was → IsSome (left_of was o)
      stays (Some k) o some = refl
      stays None o some = cc

      by : (t : Bool) → is_addr w.0 b ≡ t → IsSome (cond t (left_of (found old w.0) w.1) (found old b))
      by true same = stays (found old w.0) w.1
          (subst (λ (c : Addr). IsSome (found old c)) (sym (is_addr-same w.0 b same)) there)
      by false other = there

  -- what was taken by one of the writes may be idle, and no other slot
  pub puts-tidy : (all : Writes) → ((a : Addr) → takes_from a w ≡ true → is_taken all a ≡ true) → IsTidyBut old all →
      IsTidyBut new all
  puts-tidy all among tidy a apart = ap idle_of (at a) ∙ by (is_addr w.0 a) refl
    where
      kept : (was : Option KeptValue) (o : Option Object) → is_some o ≡ true → idle_of (left_of was o) ≡ false
      kept (Some k) (Some o) some = refl
      kept None (Some o) some = refl
      kept was None some = cc

      puts-one : (t s : Bool) → t ≡ true → (t && not s) ≡ false → s ≡ true
      puts-one t true is nay = refl
      puts-one t false is nay = absurd (true≢false (sym (ap (λ b. b && true) is) ∙ nay))

      not-true : (t : Bool) → (t ≡ true → false ≡ true) → t ≡ false
      not-true true never = sym (never refl)
      not-true false never = refl

      by : (t : Bool) → is_addr w.0 a ≡ t →
          idle_of (cond t (left_of (found old w.0) w.1) (found old a)) ≡ false
      by true same = kept (found old w.0) w.1 (puts-one (is_addr w.0 a) (is_some w.1) same
          (not-true (takes_from a w) (λ takes. sym apart ∙ among a takes)))
      by false other = tidy a apart

-- ---- what is put into the map
abbrev slots : tables.TableValue Addr StoredObject → Slots
slots m = seen kept_value (tables.entries m)

module _ (old : tables.TableValue Addr StoredObject) (a : Addr) (o : Option Object) where
  of-slot : (new : Slots) (v : KeptValue) → (is_some (found (slots old) a) || is_some o) ≡ true →
      v ≡ filled (kept_at (slots old) a) o → Changes (found (slots old)) (found new) a (Some v) →
      Puts (slots old) new (a, o)
  of-slot new v there is changes =
      subst (λ (t : Bool). Changes (found (slots old)) (found new) a
      (cond t (Some (filled (kept_at (slots old) a) o)) None)) (sym there)
      (subst (λ (x : KeptValue). Changes (found (slots old)) (found new) a (Some x)) is changes)

  -- in the slot that is there
  pub puts-there : (was k : StoredObject) → Some was ≡ lookup (same_address a) (tables.entries old) →
      (new : tables.TableValue Addr StoredObject) → Rewrites same_address old new a k →
      kept_value k ≡ filled (kept_value was) o → Puts (slots old) (slots new) (a, o)
  puts-there was k there new writes is =
      of-slot (slots new) (kept_value k) (ap (λ (x : Option KeptValue). is_some x || is_some o) known)
      (is ∙ ap (λ (x : Option KeptValue). filled (unwrap_or x empty_kept) o) (sym known))
      (found-turned kept_value old new a (Some k) (writes.changes (sym (ap is_some there))))
    where
      known : found (slots old) a ≡ Some (kept_value was)
      known = found-lookup kept_value a (tables.entries old) ∙ ap (option_map kept_value) (sym there)

  -- whether something stood there
  pub stood-there : (was : StoredObject) → Some was ≡ lookup (same_address a) (tables.entries old) → (stood : Bool) →
      stood ≡ is_some was.object → stood ≡ is_some (kept_at (slots old) a).object
  stood-there was there stood is = given-some arc_value was.object stood is
      ∙ ap (λ (x : Option KeptValue). is_some (unwrap_or x empty_kept).object)
      (ap (option_map kept_value) there ∙ sym (found-lookup kept_value a (tables.entries old)))

  module _ (absent : None ≡ lookup (same_address a) (tables.entries old)) where
    unknown : found (slots old) a ≡ None
    unknown = found-lookup kept_value a (tables.entries old) ∙ ap (option_map kept_value) (sym absent)

    -- in a new one
    pub puts-new : is_some o ≡ true → (k : StoredObject) → kept_value k ≡ filled empty_kept o →
        (new : tables.TableValue Addr StoredObject) → tables.Changes same_address old new a (Some k) →
        Puts (slots old) (slots new) (a, o)
    puts-new some k is new updates =
        of-slot (slots new) (kept_value k) ((λ i. is_some (unknown i) || some i))
        (is ∙ ap (λ (x : Option KeptValue). filled (unwrap_or x empty_kept) o) (sym unknown))
        (found-turned kept_value old new a (Some k) updates)

    -- or not at all
    pub puts-nothing : is_some o ≡ false → Puts (slots old) (slots old) (a, o)
    puts-nothing nay = subst (λ (t : Bool). Changes (found (slots old)) (found (slots old)) a
        (cond t (Some (filled (kept_at (slots old) a) o)) None)) (λ i. is_some (sym unknown i) || sym nay i) same
      where
        same : Changes (found (slots old)) (found (slots old)) a None
        same b = by (is_addr a b) refl
          where
            by : (t : Bool) → is_addr a b ≡ t → found (slots old) b ≡ cond t None (found (slots old) b)
            by true e = ap (found (slots old)) (sym (is_addr-same a b e)) ∙ unknown
            by false e = refl

    pub stood-nowhere : false ≡ is_some (kept_at (slots old) a).object
    stood-nowhere = ap (λ (x : Option KeptValue). is_some (unwrap_or x empty_kept).object) (sym unknown)

    -- a slot is needed just where something is put
    pub needs-new : is_some o ≡ true → needs_slot (slots old) (a, o) ≡ true
    needs-new some = λ i. some i && not (is_some (unknown i))

-- what is given to a slot
pub filled-of : (was : KeptValue) (object : Option Object) (given last : ℕ) → last ≡ max was.last given →
    given ≡ generation_in object → (record { object = object; last = last }) ≡ filled was object
filled-of was object given last is same = λ i. let k : KeptValue = record {
  object = object;
  last = (is ∙ ap (max was.last) same) i;
} in k

-- ---- all of them
-- Some of the writes are made, and for the rest there is room.
pub record Installing (initial now : Slots) (free standing : ℕ) (all rest : Writes) : Type 0 where
  pub same : with_writes (store_of now) rest ≡ with_writes (store_of initial) all
  pub room : slots_needed now rest ≤ free
  pub count : HasObjects (store_of now) standing
  pub among : (a : Addr) → is_taken rest a ≡ true → is_taken all a ≡ true
  pub tidy : IsTidyBut now all

pub installing-none : (initial : Slots) (room standing : ℕ) (all : Writes) → slots_needed initial all ≤ room →
    HasObjects (store_of initial) standing → IsTidy initial → Installing initial initial room standing all all
installing-none initial room standing all enough has tidy = record {
  same = refl;
  room = enough;
  count = has;
  among = λ a taken. taken;
  tidy = λ a apart. tidy a;
}

module _ (initial now : Slots) (room standing : ℕ) (all rest left : Writes) (w : Addr × Option Object)
    (i : Installing initial now room standing all rest) (is : rest ≡ w ∷ left) where
  counted : slots_needed now rest ≡ cond (needs_slot now w) 1 0 + slots_needed now left
  counted = ap (slots_needed now) is ∙ needed-cons now w left

  -- there is room for the next one
  pub installing-next : needs_slot now w ≡ true → 0 < room
  installing-next needs =
      let one : ◌≡◌ {A = ℕ} (cond (needs_slot now w) 1 0) 1 = ap (λ b. cond b 1 0) needs in
      omega (arith, i.room, counted, one)

  taken-first : (a : Addr) → takes_from a w ≡ true → is_taken all a ≡ true
  taken-first a takes = i.among a (ap (λ (ws : Writes). is_taken ws a) is ∙ ap (λ t. t || is_taken left a) takes)

  or-true : (t : Bool) → (t || true) ≡ true
  or-true true = refl
  or-true false = refl

  -- one more write is made
  pub installing-more : (next : Slots) (room' standing' : ℕ) → Puts now next w →
      room ≤ room' + cond (needs_slot now w) 1 0 → HasObjects (store_of next) standing' →
      Installing initial next room' standing' all left
  installing-more next room' standing' puts uses has = record {
    same = ap (λ (x : Store). with_writes x left) (puts-store now next w puts)
        ∙ ap (with_writes (store_of now)) (sym is) ∙ i.same;
    room = omega (arith, i.room, counted, needed-fewer now next (puts-keeps now next w puts) left, uses);
    count = has;
    among = λ a taken. i.among a (ap (λ (ws : Writes). is_taken ws a) is ∙ ap (λ t. takes_from a w || t) taken
        ∙ or-true (takes_from a w));
    tidy = puts-tidy now next w puts all taken-first i.tidy;
  }

pub installed-store : (initial now : Slots) (room standing : ℕ) (all rest : Writes) →
    Installing initial now room standing all rest → rest ≡ [] → store_of now ≡ with_writes (store_of initial) all
installed-store initial now room standing all rest i none = ap (with_writes (store_of now)) (sym none) ∙ i.same

-- ---- slots in which nothing is kept
module _ (old new : Slots) (w : Addr × Option Object) (out : TakesOutIdle old new w) where
  abbrev goes : Bool
  goes = not (is_some w.1) && idle_at old w.0

  after : (b : Addr) → found new b ≡ cond (is_addr w.0 b) (cond goes None (found old w.0)) (found old b)
  after = out

  -- the store is the same
  kept-same : (b : Addr) → kept_at new b ≡ kept_at old b
  kept-same b = ap (λ (x : Option KeptValue). unwrap_or x empty_kept) (after b) ∙ by (is_addr w.0 b) refl
    where
      slot-kept : (k : Option KeptValue) → idle_of k ≡ true → empty_kept ≡ unwrap_or k empty_kept
      slot-kept (Some k) idle = sym (nothing-kept k idle)
      slot-kept None idle = cc

      second : (a b : Bool) → (a && b) ≡ true → b ≡ true
      second true b both = both
      second false b both = cc

      here : (g : Bool) → goes ≡ g →
          unwrap_or (cond g None (found old w.0)) empty_kept ≡ kept_at old w.0
      here true it = slot-kept (found old w.0) (second (not (is_some w.1)) (idle_at old w.0) it)
      here false nay = refl

      by : (t : Bool) → is_addr w.0 b ≡ t →
          unwrap_or (cond t (cond goes None (found old w.0)) (found old b)) empty_kept ≡ kept_at old b
      by true same = here goes refl ∙ ap (kept_at old) (is_addr-same w.0 b same)
      by false other = refl

  pub out-store : store_of new ≡ store_of old
  out-store = λ i. record { at = λ b. (kept-same b i).object; last = λ n. (kept-same (Inode n) i).last }

  -- no other slot may be idle than those which the rest took
  pub out-tidy : (rest : Writes) → IsTidyBut old (w ∷ rest) → IsTidyBut new rest
  out-tidy rest tidy a apart = ap idle_of (after a) ∙ by (is_addr w.0 a) refl
    where
      others : (t : Bool) → takes_from a w ≡ t → t ≡ false → idle_at old a ≡ false
      others t is nay = tidy a (ap (λ s. s || is_taken rest a) (is ∙ nay) ∙ apart)

      here : is_addr w.0 a ≡ true → (some idle : Bool) → is_some w.1 ≡ some → idle_at old w.0 ≡ idle →
          idle_of (cond (not some && idle) None (found old w.0)) ≡ false
      here same true idle puts is = ap (λ (c : Addr). idle_at old c) (is_addr-same w.0 a same)
          ∙ others (takes_from a w) refl ((λ i. same i && not (puts i)))
      here same false true puts is = refl
      here same false false puts is = is

      by : (t : Bool) → is_addr w.0 a ≡ t → idle_of (cond t (cond goes None (found old w.0)) (found old a)) ≡ false
      by true same = here same (is_some w.1) (idle_at old w.0) refl refl
      by false other = others (takes_from a w) refl (ap (λ t. t && not (is_some w.1)) other)

-- ---- what is taken out of the map
pub idle-there : (a : Addr) (es : List (Addr × StoredObject)) (was : StoredObject)
    → Some was ≡ lookup (same_address a) es →
    is_idle (kept_value was) ≡ idle_at (seen kept_value es) a
idle-there a es was there =
    ap idle_of (ap (option_map kept_value) there ∙ sym (found-lookup kept_value a es))

pub idle-nowhere : (a : Addr) (es : List (Addr × StoredObject)) → None ≡ lookup (same_address a) es →
    false ≡ idle_at (seen kept_value es) a
idle-nowhere a es absent =
    ap idle_of (ap (option_map kept_value) absent ∙ sym (found-lookup kept_value a es))

pub takes-out : (old new : Slots) (w : Addr × Option Object) → Changes (found old) (found new) w.0 None →
    is_some w.1 ≡ false → idle_at old w.0 ≡ true → TakesOutIdle old new w
takes-out old new w out nay idle =
    subst (λ (t : Bool). Changes (found old) (found new) w.0 (cond t None (found old w.0)))
    (λ i. not (sym nay i) && sym idle i) out

-- ---- one after the other
pub next-write : (ws : List Write) (i : ℕ) (w : Write) → i < length ws → w ≡ get_or ws i w →
    drop i (map write_value ws) ≡ write_value w ∷ drop (i + 1) (map write_value ws)
next-write ws i w within is =
    let same = length-map ws write_value in
    let one : suc i ≡ i + 1 = omega arith in
    drop-cons (map write_value ws) i (write_value w) (omega (arith, within, same))
    ∙ (λ j. (get_or-map write_value ws i w ∙ ap write_value (sym is)) j ∷ drop (one j) (map write_value ws))
