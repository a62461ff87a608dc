-- What a commit leaves of the others, and of the tie: only what is held alone is written.
use Rattle.std.proofs.Common.{◌≡◌, ◌≢◌, ℕ, zero, suc, ◌<◌, ◌≤◌, ◌%◌, ◌==◌, ◌&&◌}
use Rattle.std.proofs.Common.{Bool, true, false, cond, max, List, [], ◌∷◌, get_or}
use Rattle.std.proofs.Common.{Option, Some, None, IsSome, is_some, option_map, slice_get, refl, sym, ◌∙◌, ap}
use Rattle.std.proofs.Common.{subst, inl, inr, ◌⊎◌, arith}
use Rattle.std.specs.Cmp.{unsigned_Decides}
use Rattle.std.specs.List.{AllByRecursion}
use Rattle.nfs_objects.proofs.SeenLemmas.{all-map, is_addr-same, shown-stands}
use Rattle.nfs_objects.specs.Promise.{Given, IsGiven, IsPromised, IsReserved, ShowsGeneration}
use Rattle.nfs_objects.specs.Store.{Store, give, with_write, with_writes}
use Rattle.nfs_objects.specs.Values.{Seen, ViewValue, is_addr, seen_at, written_at}
use Rattle.nfs_objects.specs.declared.address.Addr.{Addr}
use Rattle.nfs_objects.specs.declared.address.Addr.TheVariants as addresses
use Rattle.nfs_objects.specs.declared.modes.Mode.{Mode}
use Rattle.nfs_objects.specs.declared.modes.Mode.TheVariants.{Shared, Exclusive}
use Rattle.nfs_objects.specs.declared.object.Inode as inodes
use Rattle.nfs_objects.specs.declared.object.Object.{Object}
use Rattle.nfs_objects.specs.declared.object.Object.TheVariants as objects
use Rattle.nfs_objects.specs.declared.view.Reserved.{Reserved}
use Rattle.nfs_engine.proofs.OriginsLemmas.{its_origin}
use Rattle.nfs_engine.proofs.ShardsFilledLemmas.{written_over}
use Rattle.nfs_engine.proofs.CallsInProgressLemmas.{stays_running, was_running}
use Rattle.nfs_engine.specs.Book.{BookValue, Commits, IsRun, MayCommit, store_in}
use Rattle.nfs_engine.specs.Calls.{FinishedValue, TxnValue, txn_of}
use Rattle.nfs_engine.specs.Engine.{EngineValue, IsHeldAmong, IsLeaving, IsTied}
use Rattle.nfs_engine.specs.Engine.{KeepsCounters, KeepsOthers, LeadsTo, Lives, freed, held_among, kept_by}
use Rattle.nfs_engine.specs.Engine.{mode_in, shard_among, slot_among}
use Rattle.nfs_engine.specs.Holders.{HoldersValue, hold_in, hold_of, is_among}
use Rattle.nfs_engine.specs.Releases.{ReleaseValue}
use Rattle.nfs_engine.specs.Repeats.{origin_of}
use Rattle.nfs_engine.specs.Running.{origin_at, running_at, without_call}
use Rattle.nfs_engine.specs.Settling.{IsSettled}
use Rattle.nfs_engine.specs.Shards.{ShardValue, shard_of}
use Rattle.nfs_engine.specs.declared.release.Then.TheVariants.{Ended}
use Rattle.nfs_engine.specs.declared.running.Running.{Running}

-- ---- who holds alone
alone_only : (o : Option ℕ) (hs : List ℕ) (i j : ℕ) → hold_in o hs i ≡ Some Exclusive →
    IsSome (hold_in o hs j) → i ≡ j
alone_only (Some h) hs i j e s =
    elim (h == i) as (λ b. (h == i) ≡ b → cond b (Some Exclusive) None ≡ Some Exclusive → i ≡ j) [
      | true ↦ λ here f. elim (h == j) as (λ b. (h == j) ≡ b → IsSome (cond b (Some Exclusive) None) →
          i ≡ j) [
            | true ↦ λ there g. sym ((unsigned_Decides h i).0 here) ∙ (unsigned_Decides h j).0 there
            | false ↦ λ there g. cc
          ] refl s
      | false ↦ λ here f. cc
    ] refl e
alone_only None hs i j e s =
    elim (is_among hs i) as (λ b. cond b (Some Shared) None ≡ Some Exclusive → i ≡ j) [
      | true ↦ λ f.
          cc
      | false ↦ λ f. cc
    ] e

-- where one holds alone, whoever else holds is that one
pub excludes : (v : HoldersValue) (i j : ℕ) → hold_of v i ≡ Some Exclusive → IsSome (hold_of v j) → i ≡ j
excludes v i j e s = alone_only v.alone v.beside i j e s

-- a number is given nothing by a write elsewhere
give_elsewhere : (last : ℕ → ℕ) (a : Addr) (o : Option Object) (n : ℕ) → is_addr a (addresses.Inode n) ≡
    false →
    give last a o n ≡ last n
give_elsewhere last (addresses.Inode k) (Some (objects.Inode i)) n other =
    ap (λ b. cond b (max (last n) i.generation) (last n)) other
give_elsewhere last (addresses.Inode k) (Some (objects.Exports t)) n other = refl
give_elsewhere last (addresses.Inode k) (Some (objects.Map b)) n other = refl
give_elsewhere last (addresses.Inode k) (Some (objects.Block b)) n other = refl
give_elsewhere last (addresses.Inode k) (Some (objects.Page p)) n other = refl
give_elsewhere last (addresses.Inode k) (Some (objects.Part p)) n other = refl
give_elsewhere last (addresses.Inode k) (Some (objects.Mounts t)) n other = refl
give_elsewhere last (addresses.Inode k) (Some (objects.Usage t)) n other = refl
give_elsewhere last (addresses.Inode k) (Some (objects.Locks b)) n other = refl
give_elsewhere last (addresses.Inode k) None n other = refl
give_elsewhere last addresses.Exports o n other = refl
give_elsewhere last (addresses.Map m page) o n other = refl
give_elsewhere last (addresses.Block m i) o n other = refl
give_elsewhere last (addresses.Page m page) o n other = refl
give_elsewhere last (addresses.Part m bucket part) o n other = refl
give_elsewhere last addresses.Mounts o n other = refl
give_elsewhere last (addresses.Usage e g) o n other = refl
give_elsewhere last (addresses.Locks b) o n other = refl

module _ (shards : List ShardValue) (id j : ℕ) (apart : j ≢ id) where
  -- what one holds alone, another does not hold in any mode
  not_there : (w a : Addr) → held_among shards w id ≡ Some Exclusive → IsSome (held_among shards a j) →
      is_addr w a ≡ false
  not_there w a alone some =
      elim (is_addr w a) as (λ b. is_addr w a ≡ b → b ≡ false) [
        | true ↦ λ same. absurd (apart (sym (excludes (slot_among shards w).holders id j alone
            (subst (λ x. IsSome (held_among shards x j)) (sym (is_addr-same w a same)) some))))
        | false ↦ λ f. refl
      ] refl

  not_written : (s : Store) (ws : List (Addr × Option Object)) (a : Addr) →
      AllByRecursion (λ w. held_among shards w.0 id ≡ Some Exclusive) ws → IsSome (held_among shards a j) →
      (with_writes s ws).at a ≡ s.at a
  not_written s [] a all some = refl
  not_written s (w ∷ ws) a all some = not_written (with_write s w.0 w.1) ws a all.1 some ∙
      ap (λ b. cond b w.1 (s.at a)) (not_there w.0 a all.0 some)

  not_given : (s : Store) (ws : List (Addr × Option Object)) (n : ℕ) →
      AllByRecursion (λ w. held_among shards w.0 id ≡ Some Exclusive) ws →
      IsSome (held_among shards (addresses.Inode n) j) → (with_writes s ws).last n ≡ s.last n
  not_given s [] n all some = refl
  not_given s (w ∷ ws) n all some = not_given (with_write s w.0 w.1) ws n all.1 some ∙
      give_elsewhere s.last w.0 w.1 n (not_there w.0 (addresses.Inode n) all.0 some)

-- ---- which generations are given
-- what is promised of each is true of the one at a place
all_at : {X : Type 0} (P : X → Type 0) (xs : List X) (k : ℕ) (x : X) → AllByRecursion P xs →
    slice_get xs k ≡ Some x → P x
all_at P [] k x all is = cc
all_at P (y ∷ ys) zero x all is = subst P (let same : y ≡ x = cc in same) all.0
all_at P (y ∷ ys) (suc k) x all is = all_at P ys k x all.1 is

module _ (view : ViewValue) (s : Store) (next : ℕ → ℕ) (fits : AllByRecursion (λ (e : Seen).
    s.at e.address ≡ e.object) view.entries)
    (given : (n : ℕ) (i : inodes.Inode) → s.at (addresses.Inode n) ≡ Some (objects.Inode i) →
    i.generation ≤ s.last n)
    (below : (n : ℕ) → s.last n < next (n % 16))
    (fresh : AllByRecursion (λ (r : Reserved). r.generation < next (r.number % 16)) view.reserved) where
  generation_below : (n g : ℕ) → (ShowsGeneration view n g ⊎ IsReserved view n g) → g < next (n % 16)
  generation_below n g (inl shown) =
      let least = given n shown.0 (shown-stands view.entries s.at (addresses.Inode n) (Some (objects.Inode shown.0))
      fits shown.1) in
      let less = below n in
      let same = shown.2 in
      omega arith
  generation_below n g (inr reserved) = all_at (λ (r : Reserved). r.generation < next (r.number % 16)) view.reserved
      reserved.0 (record { number = n; generation = g }) fresh reserved.1

  given_below : (last : ℕ → ℕ) (a : Addr) (o : Option Object) → ((n : ℕ) → last n < next (n % 16)) →
      IsGiven view a o →
      (n : ℕ) → give last a o n < next (n % 16)
  given_below last (addresses.Inode k) (Some (objects.Inode i)) less is n =
      elim (k == n) as (λ t. (k == n) ≡ t → cond t (max (last n) i.generation) (last n) < next (n % 16)) [
        | true ↦ λ e. (let was = less n in
            let here : i.generation < next (n % 16) =
            subst (λ m. i.generation < next (m % 16)) ((unsigned_Decides k n).0 e)
            (generation_below k i.generation is) in
            omega arith)
        | false ↦ λ e. less n
      ] refl
  given_below last (addresses.Inode k) (Some (objects.Exports t)) less is n = less n
  given_below last (addresses.Inode k) (Some (objects.Map b)) less is n = less n
  given_below last (addresses.Inode k) (Some (objects.Block b)) less is n = less n
  given_below last (addresses.Inode k) (Some (objects.Page p)) less is n = less n
  given_below last (addresses.Inode k) (Some (objects.Part p)) less is n = less n
  given_below last (addresses.Inode k) (Some (objects.Mounts t)) less is n = less n
  given_below last (addresses.Inode k) (Some (objects.Usage t)) less is n = less n
  given_below last (addresses.Inode k) (Some (objects.Locks b)) less is n = less n
  given_below last (addresses.Inode k) None less is n = less n
  given_below last addresses.Exports o less is n = less n
  given_below last (addresses.Map m page) o less is n = less n
  given_below last (addresses.Block m i) o less is n = less n
  given_below last (addresses.Page m page) o less is n = less n
  given_below last (addresses.Part m bucket part) o less is n = less n
  given_below last addresses.Mounts o less is n = less n
  given_below last (addresses.Usage e g) o less is n = less n
  given_below last (addresses.Locks b) o less is n = less n

  pub all_below : (ws : List (Addr × Option Object)) (t : Store) → ((n : ℕ) → t.last n < next (n % 16)) →
      Given view ws →
      (n : ℕ) → (with_writes t ws).last n < next (n % 16)
  all_below [] t less all n = less n
  all_below (w ∷ ws) t less all n = all_below ws (with_write t w.0 w.1) (given_below t.last w.0 w.1 less all.0)
      all.1 n

-- ---- a commit
abbrev none_where : Bool → Option Mode → Option Mode
none_where t m = elim t [ true ↦ None | false ↦ m ]

-- what is written is held
pub written_held : (book : BookValue) (shards : List ShardValue) (f : FinishedValue) →
    Lives (record { book = book; shards = shards }) (txn_of f) → IsPromised f.done →
    AllByRecursion (λ w. held_among shards w.0 f.id ≡ Some Exclusive) f.done.change.writes
written_held book shards f lives promised =
    all-map (λ w. mode_in f.done.view.entries w.0 ≡ Some Exclusive) (λ w. held_among shards w.0 f.id ≡
    Some Exclusive)
    (λ w is. lives.holds.exactly w.0 ∙ is) f.done.change.writes promised.held

pub held_to_write : (book : BookValue) (shards : List ShardValue) (f : FinishedValue) →
    Lives (record { book = book; shards = shards }) (txn_of f) → IsPromised f.done →
    AllByRecursion (λ w. IsHeldAmong shards w.0) f.done.change.writes
held_to_write book shards f lives promised =
    all-map (λ w. held_among shards w.0 f.id ≡ Some Exclusive) (λ w. IsHeldAmong shards w.0)
    (λ w is. record { holder = f.id; holds = subst (λ o. IsSome o) (sym is) refl }) f.done.change.writes
    (written_held book shards f lives promised)

-- a call that lives may be committed
pub may_commit : (e : EngineValue) (f : FinishedValue) → Lives e (txn_of f) → MayCommit e.book f
may_commit e f lives =
    let same : lives.running.running ≡ record { id = f.id; origin = origin_of f.received f.done.call } =
    λ i. record { id = lives.running.same i; origin = lives.running.came i } in
    record {
      fits = lives.fits;
      under = lives.under;
      placed = lives.running.there ∙ ap (λ (r : Running). Some r) same;
    }

-- the book has a call that lives at its place, as it came
pub came_so : (e : EngineValue) (t : TxnValue) → Lives e t →
    origin_at e.book.living t.key t.id ≡ origin_of t.received t.call
came_so e t lives =
    its_origin e.book.living t.key lives.running.running lives.running.there t.id lives.running.same
    ∙ lives.running.came

module _ (book later : BookValue) (old new : List ShardValue) (f : FinishedValue) (r : ReleaseValue)
    (tied : IsTied (record { book = book; shards = old })) (lives : Lives (record { book = book; shards = old })
    (txn_of f))
    (promised : IsPromised f.done) (run : IsRun book) (commits : Commits book later f)
    (ws : List (Addr × Option Object)) (done : IsSettled old new r.done r.id r.view.entries ws)
    (writes : ws ≡ f.done.change.writes) (id : r.id ≡ f.id) (view : r.view ≡ f.done.view) (over : r.after ≡
    Ended) where
  abbrev pub before : EngineValue
  before = record { book = book; shards = old }

  abbrev pub after : EngineValue
  after = record { book = later; shards = new }

  settled : IsSettled old new r.done f.id f.done.view.entries f.done.change.writes
  settled = subst (λ (xs : List (Addr × Option Object)). IsSettled old new r.done f.id f.done.view.entries xs) writes
      (subst (λ k. IsSettled old new r.done k f.done.view.entries ws) id
      (subst (λ (v : ViewValue). IsSettled old new r.done r.id v.entries ws) view done))

  ids : later.next_id ≡ book.next_id
  ids = ap (λ (b : BookValue). b.next_id) commits.rest

  living : later.living ≡ without_call book.living f.key f.id
  living = ap (λ (b : BookValue). b.living) commits.rest

  alone : AllByRecursion (λ w. held_among old w.0 f.id ≡ Some Exclusive) f.done.change.writes
  alone = written_held book old f lives promised

  holds : (b : Addr) (j : ℕ) → held_among new b j ≡
      none_where ((f.id == j) && freed r.done f.done.view.entries b) (held_among old b j)
  holds b j = settled.holds b j

  others_hold : (b : Addr) (j : ℕ) → j ≢ f.id → held_among new b j ≡ held_among old b j
  others_hold b j apart = holds b j ∙ elim (f.id == j) as (λ t. (f.id == j) ≡ t →
      none_where (t && freed r.done f.done.view.entries b) (held_among old b j) ≡ held_among old b j) [
        | true ↦ λ e. absurd (apart (sym ((unsigned_Decides f.id j).0 e)))
        | false ↦ λ e. refl
      ] refl

  own_hold : (b : Addr) → held_among new b f.id ≡ kept_by r b
  own_hold b = holds b f.id ∙ ap (λ t. none_where (t && freed r.done f.done.view.entries b)
      (held_among old b f.id)) ((unsigned_Decides f.id f.id).1 refl) ∙
      ap (λ (m : Option Mode). none_where (freed r.done f.done.view.entries b) m)
      (lives.holds.exactly b) ∙
      seen_or (get_or r.done (shard_of b) false) (seen_at f.done.view.entries b) ∙
      ap (λ (v : ViewValue). none_where (get_or r.done (shard_of b) false) (mode_in v.entries b)) (sym view)
    where
      seen_or : (t : Bool) (x : Option Seen) →
          none_where (t && is_some x) (option_map (λ (e : Seen). e.mode) x) ≡
          none_where t (option_map (λ (e : Seen). e.mode) x)
      seen_or true None = refl
      seen_or true (Some e) = refl
      seen_or false x = refl

  counters : (k : ℕ) → (shard_among new k).next_generation ≡ (shard_among old k).next_generation
  counters k = settled.counters k

  pub settled_counters : KeepsCounters before after
  settled_counters = record { ids = ids; generations = counters }

  pub settled_others : KeepsOthers f.id before after
  settled_others = record {
    objects = λ a j apart some. ap (λ (s : Store). s.at a) commits.store ∙
        not_written old f.id j apart (store_in book) f.done.change.writes a alone some;
    lasts = λ n j apart some. ap (λ (s : Store). s.last n) commits.store ∙
        not_given old f.id j apart (store_in book) f.done.change.writes n alone some;
    holds = others_hold;
    living = λ key x apart is. ap (λ l. running_at l key) living ∙
        stays_running book.living f.key f.id key x apart is;
    lived = λ key x apart is. was_running book.living f.key f.id key x apart
        (sym (ap (λ l. running_at l key) living) ∙ is);
    ids = (let same = ids in omega arith);
    generations = λ k. (let same = counters k in omega arith);
    setting = ap (λ (b : BookValue). b.setting) commits.rest;
  }

  pub settled_tied : IsTied after
  settled_tied = record {
    objects = λ a. some_same (slot_among new a).object ((store_in later).at a)
        (settled.objects a ∙ ap (λ o. written_at (Some o) f.done.change.writes a) (tied.objects a) ∙
        sym (written_over f.done.change.writes (store_in book) a) ∙
        ap (λ (s : Store). Some (s.at a)) (sym commits.store));
    below = λ n. (let less = all_below f.done.view (store_in book) (λ k. (shard_among old k).next_generation)
        lives.fits.entries run.leads.stands.represents.objects.given tied.below lives.fresh f.done.change.writes
        (store_in book) tied.below promised.given n in
        let same = ap (λ (s : Store). s.last n) commits.store in
        let kept = counters (n % 16) in
        omega arith);
    held = λ a j some. (let same = ids in let was = tied.held a j (fewer a j some) in omega arith);
    indices = λ k within. settled.indices k ∙ tied.indices k within;
  }
    where
      some_same : (x y : Option Object) → Some x ≡ Some y → x ≡ y
      some_same x y e = cc

      fewer : (a : Addr) (j : ℕ) → IsSome (held_among new a j) → IsSome (held_among old a j)
      fewer a j some = elim ((f.id == j) && freed r.done f.done.view.entries a) as (λ t.
          IsSome (none_where t (held_among old a j)) → IsSome (held_among old a j)) [
            | true ↦ λ no. cc
            | false ↦ λ is. is
          ] (subst (λ (m : Option Mode). IsSome m) (holds a j) some)

  pub settled_leaving : IsLeaving after r
  settled_leaving = record {
    holds = record {
      exactly = λ a. ap (held_among new a) id ∙ own_hold a;
      known = (let same = ids in let was = lives.holds.known in omega arith);
    };
    after = subst (λ t. LeadsTo after r.id t) (sym over) tt;
  }
