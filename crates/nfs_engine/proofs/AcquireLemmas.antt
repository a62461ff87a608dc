-- What a call that takes an address, or gets a number, is then.
use Rattle.std.proofs.Common.{◌≡◌, ℕ, ◌<◌, ◌+◌, ◌%◌, ◌==◌, true}
use Rattle.std.proofs.Common.{false, cond, List, [], ◌∷◌, ◌++◌}
use Rattle.std.proofs.Common.{set, length, Option, Some, None, option_map, refl, sym, ◌∙◌, ap}
use Rattle.std.proofs.Common.{arith}
use Rattle.std.specs.Cmp.{unsigned_Decides}
use Rattle.std.specs.List.{AllByRecursion}
use Rattle.nfs_objects.proofs.SeenLemmas.{all-append, all-map, is_addr-same, seen-before, seen-last}
use Rattle.nfs_objects.specs.Fits.{vacant}
use Rattle.nfs_objects.specs.Rooms.{with_seen, with_number}
use Rattle.nfs_objects.specs.Values.{Seen, is_addr, seen_at}
use Rattle.nfs_objects.specs.declared.address.Addr.{Addr}
use Rattle.nfs_objects.specs.declared.address.Addr.TheVariants.{Inode}
use Rattle.nfs_objects.specs.declared.modes.Mode.{Mode}
use Rattle.nfs_objects.specs.declared.modes.Mode.TheVariants.{Exclusive}
use Rattle.nfs_objects.specs.declared.object.Object.{Object}
use Rattle.nfs_objects.specs.declared.view.Reserved.{Reserved}
use Rattle.nfs_engine.proofs.LetGoEntryLemmas.{seen_beside}
use Rattle.nfs_engine.proofs.OneShardOfSixteenLemmas.{here}
use Rattle.nfs_engine.proofs.HolderModeLemmas.{Reholds, Turn, hold_so, lifted, only_in, reheld_holds, reserves_holds}
use Rattle.nfs_engine.specs.Book.{BookValue, store_in}
use Rattle.nfs_engine.specs.Calls.{TxnValue}
use Rattle.nfs_engine.specs.Engine.{IsTied, Lives, mode_in, shard_among}
use Rattle.nfs_engine.specs.Shards.{Reserves, ShardValue, SlotValue, shard_of, slot_at}

-- the modes with one entry more
pub mode_more : (es : List Seen) (e : Seen) (b : Addr) → seen_at es e.address ≡ None →
    mode_in (es ++ e ∷ []) b ≡ cond (is_addr e.address b) (Some e.mode) (mode_in es b)
mode_more es e b unseen = elim (is_addr e.address b) as (λ t. is_addr e.address b ≡ t →
    mode_in (es ++ e ∷ []) b ≡ cond t (Some e.mode) (mode_in es b)) [
      | true ↦ λ same. ap (λ (x : Option Seen). option_map (λ (y : Seen). y.mode) x)
          (ap (λ (c : Addr). seen_at (es ++ e ∷ []) c) (sym (is_addr-same e.address b same)) ∙
          seen-last es e unseen)
      | false ↦ λ other. ap (λ (x : Option Seen). option_map (λ (y : Seen). y.mode) x) (seen_beside es e b other)
    ] refl

-- an address is held in its own shard
own_shard : (a b : Addr) (m h : Option Mode) (i : ℕ) → i ≡ shard_of a →
    only_in i (hold_so a m) b h ≡ cond (is_addr a b) m h
own_shard a b m h i where_is = elim (is_addr a b) as (λ t. is_addr a b ≡ t →
    cond (shard_of b == i) (cond t m h) h ≡ cond t m h) [
      | true ↦ λ same. ap (λ u. cond u m h) ((unsigned_Decides (shard_of b) i).1
          (ap shard_of (sym (is_addr-same a b same)) ∙ sym where_is))
      | false ↦ λ other. elim (shard_of b == i) as (λ u. cond u h h ≡ h) [ true ↦ refl | false ↦ refl ]
    ] refl

module _ (book : BookValue) (old new : List ShardValue) (t : TxnValue) (turn : Turn) (r : Reholds old new t.id turn)
    (lives : Lives (record { book = book; shards = old }) t) where
  fresh_still : AllByRecursion
      (λ (x : Reserved). x.generation < (shard_among new (x.number % 16)).next_generation) t.view.reserved
  fresh_still = all-map (λ (x : Reserved). x.generation < (shard_among old (x.number % 16)).next_generation)
      (λ (x : Reserved). x.generation < (shard_among new (x.number % 16)).next_generation)
      (λ x f. (let more = r.counters (x.number % 16) in omega arith)) t.view.reserved lives.fresh

  -- what it holds is as it was
  pub lives_as_it_was : ((b : Addr) → turn b (mode_in t.view.entries b) ≡ mode_in t.view.entries b) →
      Lives (record { book = book; shards = new }) t
  lives_as_it_was same = record {
    fits = lives.fits;
    holds = reheld_holds book old new t.id turn r (mode_in t.view.entries) (mode_in t.view.entries) lives.holds same;
    fresh = fresh_still;
    running = record {
      running = lives.running.running;
      there = lives.running.there;
      same = lives.running.same;
      came = lives.running.came;
    };
    under = lives.under;
  }

  -- it holds one address more, and has read it
  pub lives_with_one : (a : Addr) (mode : Mode) (o : Option Object) (i : ℕ) → turn ≡
      only_in i (hold_so a (Some mode)) →
      i ≡ shard_of a → seen_at t.view.entries a ≡ None → o ≡ (store_in book).at a →
      Lives (record { book = book; shards = new })
      (record t { view = with_seen t.view (record { address = a; mode = mode; object = o }) })
  lives_with_one a mode o i is where_is unseen stands =
      let e : Seen = record { address = a; mode = mode; object = o } in
      record {
        fits = record {
          entries = all-append (λ (x : Seen). (store_in book).at x.address ≡ x.object) t.view.entries e
              lives.fits.entries (sym stands);
          reserved = all-map
              (λ (x : Reserved). (seen_at t.view.entries (Inode x.number) ≡ Some (vacant x)) ×
              ((store_in book).last x.number < x.generation))
              (λ (x : Reserved). (seen_at (t.view.entries ++ e ∷ []) (Inode x.number) ≡ Some (vacant x)) ×
              ((store_in book).last x.number < x.generation))
              (λ x h. (seen-before t.view.entries (e ∷ []) (Inode x.number) (vacant x) h.0, h.1))
              t.view.reserved lives.fits.reserved;
        };
        holds = reheld_holds book old new t.id turn r (mode_in t.view.entries) (mode_in (t.view.entries ++ e ∷ []))
            lives.holds (λ b. ap (λ (f : Turn). f b (mode_in t.view.entries b)) is ∙
            own_shard a b (Some mode) (mode_in t.view.entries b) i where_is ∙
            sym (mode_more t.view.entries e b unseen));
        fresh = fresh_still;
        running = record {
          running = lives.running.running;
          there = lives.running.there;
          same = lives.running.same;
          came = lives.running.came;
        };
        under = lives.under;
      }

-- it holds a new number
pub lives_with_number : (book : BookValue) (shards : List ShardValue) (i : ℕ) (s : ShardValue) (t : TxnValue)
    (n : Reserved) → i < length shards → i < 16 → IsTied (record { book = book; shards = shards }) →
    Reserves (shard_among shards i) s t.id n → seen_at t.view.entries (Inode n.number) ≡ None →
    Lives (record { book = book; shards = shards }) t →
    Lives (record { book = book; shards = set shards i s }) (record t { view = with_number t.view n })
lives_with_number book shards i s t n within sixteen tied r unseen lives =
    let turned = reserves_holds (shard_among shards i) s t.id n r in
    let all = lifted shards i s t.id (hold_so (Inode n.number) (Some Exclusive)) within turned in
    let new : List ShardValue = set shards i s in
    let where_is : i ≡ n.number % 16 = sym (r.shard ∙ tied.indices i sixteen) in
    let counted : (shard_among shards (n.number % 16)).next_generation ≡ n.generation =
    ap (λ k. (shard_among shards k).next_generation) (sym where_is) ∙ sym r.generation in
    let counts : (shard_among new (n.number % 16)).next_generation ≡ n.generation + 1 =
    ap (λ k. (shard_among new k).next_generation) (sym where_is) ∙
    ap (λ (x : ShardValue). x.next_generation) (here shards i s within) ∙ r.next_generation ∙
    ap (λ k. k + 1) (sym r.generation) in
    record {
      fits = record {
        entries = all-append (λ (x : Seen). (store_in book).at x.address ≡ x.object) t.view.entries (vacant n)
            lives.fits.entries (sym (tied.objects (Inode n.number)) ∙
            ap (λ k. (slot_at (shard_among shards k) (Inode n.number)).object) (sym where_is) ∙
            ap (λ (x : SlotValue). x.object) r.empty);
        reserved = all-append
            (λ (x : Reserved). (seen_at (t.view.entries ++ vacant n ∷ []) (Inode x.number) ≡ Some (vacant x)) ×
            ((store_in book).last x.number < x.generation)) t.view.reserved n
            (all-map (λ (x : Reserved). (seen_at t.view.entries (Inode x.number) ≡ Some (vacant x)) ×
            ((store_in book).last x.number < x.generation))
            (λ (x : Reserved). (seen_at (t.view.entries ++ vacant n ∷ []) (Inode x.number) ≡ Some (vacant x)) ×
            ((store_in book).last x.number < x.generation))
            (λ x h. (seen-before t.view.entries (vacant n ∷ []) (Inode x.number) (vacant x) h.0, h.1))
            t.view.reserved lives.fits.reserved)
            (seen-last t.view.entries (vacant n) unseen, (let was = tied.below n.number in omega arith));
      };
      holds = reheld_holds book shards new t.id (only_in i (hold_so (Inode n.number) (Some Exclusive))) all
          (mode_in t.view.entries) (mode_in (t.view.entries ++ vacant n ∷ [])) lives.holds
          (λ b. own_shard (Inode n.number) b (Some Exclusive) (mode_in t.view.entries b) i where_is ∙
          sym (mode_more t.view.entries (vacant n) b unseen));
      fresh = all-append (λ (x : Reserved). x.generation < (shard_among new (x.number % 16)).next_generation)
          t.view.reserved n
          (all-map (λ (x : Reserved). x.generation < (shard_among shards (x.number % 16)).next_generation)
          (λ (x : Reserved). x.generation < (shard_among new (x.number % 16)).next_generation)
          (λ x f. (let more = all.counters (x.number % 16) in omega arith)) t.view.reserved lives.fresh)
          (omega arith);
      running = record {
        running = lives.running.running;
        there = lives.running.there;
        same = lives.running.same;
        came = lives.running.came;
      };
      under = lives.under;
    }
