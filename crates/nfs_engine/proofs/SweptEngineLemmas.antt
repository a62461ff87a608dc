-- The book and its shards stay tied where both are swept.
use Rattle.std.proofs.Common.{◌≡◌, ◌≢◌, ℕ, ◌<◌, ◌%◌, ◌/◌, ◌==◌, true, cond, List}
use Rattle.std.proofs.Common.{get_or, set, length, Option, Some, None, IsSome, refl, sym, ◌∙◌, ap, subst, arith}
use Rattle.std.proofs.lemmas.Bool.{and_parts, false_from_ne_true}
use Rattle.std.specs.Cmp.{unsigned_Decides}
use Rattle.nfs_objects.proofs.SeenLemmas.{is_addr-same}
use Rattle.nfs_objects.specs.Values.{is_addr}
use Rattle.nfs_objects.specs.declared.address.Addr.{Addr}
use Rattle.nfs_objects.specs.declared.address.Addr.TheVariants.{Exports, Inode, Map, Block, Page, Part, Mounts, Usage}
use Rattle.nfs_objects.specs.declared.address.Addr.TheVariants.{Locks}
use Rattle.nfs_objects.specs.declared.modes.Mode.{Mode}
use Rattle.nfs_objects.specs.declared.object.Object.{Object}
use Rattle.nfs_engine.proofs.OneShardOfSixteenLemmas.{any_default, each_shard, each_slot}
use Rattle.nfs_engine.specs.Book.{BookValue, store_in}
use Rattle.nfs_engine.specs.Engine.{EngineValue, IsTied, KeepsAll, KeepsCounters, held_among, shard_among}
use Rattle.nfs_engine.specs.Holders.{hold_of}
use Rattle.nfs_engine.specs.Running.{running_at}
use Rattle.nfs_engine.specs.Shards.{ShardValue, shard_of, slot_at}
use Rattle.nfs_engine.specs.Sweeps.{IsFreeOf, SweepValue, Sweeps, SweepsShard, is_of_page}
use Rattle.nfs_engine.specs.SweptShards.{SweepsAmong}

-- one shard is swept, which has all that goes
module _ (shards : List ShardValue) (k : ℕ) (was s : ShardValue) (within : k < length shards) (w : SweepValue)
    (place : k ≡ w.file % 16) (free : IsFreeOf (get_or shards k was) w)
    (swept : SweepsShard (get_or shards k was) s w) where
  there : get_or shards k was ≡ shard_among shards k
  there = any_default shards k was within

  unheld : IsFreeOf (shard_among shards k) w
  unheld = subst (λ (x : ShardValue). IsFreeOf x w) there free

  went : SweepsShard (shard_among shards k) s w
  went = subst (λ (x : ShardValue). SweepsShard x s w) there swept

  -- each of its addresses is in that shard
  page-in : (a : Addr) → is_of_page w.file w.page a ≡ true → shard_of a ≡ k
  page-in (Map n p) of =
      sym (ap (λ q. q % 16) ((unsigned_Decides w.file n).0 (and_parts (w.file == n) (w.page == p) of).0)) ∙ sym place
  page-in (Block n i) of =
      sym (ap (λ q. q % 16) ((unsigned_Decides w.file n).0 (and_parts (w.file == n) (w.page == i / 512) of).0))
      ∙ sym place
  page-in Exports of = cc
  page-in (Inode n) of = cc
  page-in (Page n p) of = cc
  page-in (Part n bucket part) of = cc
  page-in Mounts of = cc
  page-in (Usage e g) of = cc
  page-in (Locks b) of = cc

  inode-in : (a : Addr) → is_addr (Inode w.file) a ≡ true → shard_of a ≡ k
  inode-in a is = ap shard_of (sym (is_addr-same (Inode w.file) a is)) ∙ sym place

  other : (a : Addr) (o : Option Object) → shard_of a ≢ k →
      o ≡ cond (is_of_page w.file w.page a) None (cond (is_addr (Inode w.file) a) w.inode o)
  other a o apart =
      let page = false_from_ne_true (is_of_page w.file w.page a) (λ of. apart (page-in a of)) in
      let inode = false_from_ne_true (is_addr (Inode w.file) a) (λ is. apart (inode-in a is)) in
      sym (λ i. cond (page i) None (cond (inode i) w.inode o))

  pub one-swept : SweepsAmong shards (set shards k s) w
  one-swept = record {
    objects = each_slot shards k s within (λ b x y. y.object ≡
        cond (is_of_page w.file w.page b) None (cond (is_addr (Inode w.file) b) w.inode x.object))
        (λ b is. went.objects b) (λ b apart x. other b x.object apart);
    holds = λ b j. each_slot shards k s within (λ b x y. hold_of y.holders j ≡ hold_of x.holders j)
        (λ b is. went.holds b j) (λ b apart x. refl) b;
    inode = λ j. ap (λ i. hold_of (slot_at (shard_among shards i) (Inode w.file)).holders j) (sym place)
        ∙ unheld.inode j;
    page = λ b of j.
        ap (λ i. hold_of (slot_at (shard_among shards i) b).holders j) (page-in b of) ∙ unheld.page b of j;
    counters = each_shard shards k s within (λ x y. y.next_generation ≡ x.next_generation) went.next_generation
        (λ x. refl);
    indices = each_shard shards k s within (λ x y. y.index ≡ x.index) went.index (λ x. refl);
  }

module _ (book swept : BookValue) (shards now : List ShardValue) (w : SweepValue) (went : SweepsAmong shards now w)
    (sweeps : Sweeps (store_in book) (store_in swept) w) (rest : swept ≡ record book { objects = swept.objects }) where
  abbrev before : EngineValue
  before = record { book = book; shards = shards }

  abbrev after : EngineValue
  after = record { book = swept; shards = now }

  same-ids : swept.next_id ≡ book.next_id
  same-ids = ap (λ (b : BookValue). b.next_id) rest

  pub swept-tied : IsTied before → IsTied after
  swept-tied tied = record {
    objects = λ b. went.objects b
        ∙ ap (λ o. cond (is_of_page w.file w.page b) None (cond (is_addr (Inode w.file) b) w.inode o)) (tied.objects b)
        ∙ sym (sweeps.at b);
    below = λ n.
        (let was = tied.below n in
        let last = sweeps.last n in
        let next = went.counters (n % 16) in
        omega (arith, was, last, next));
    held = λ b j some.
        (let was = tied.held b j (subst (λ m. IsSome m) (went.holds b j) some) in
        let ids = same-ids in
        omega (arith, was, ids));
    indices = λ i small. went.indices i ∙ tied.indices i small;
  }

  no-some : (m : Option Mode) → m ≡ None → IsSome m → ⊥
  no-some None none some = cc
  no-some (Some m) none some = cc

  -- what somebody holds was not swept
  held-stays : (b : Addr) (j : ℕ) → IsSome (held_among shards b j) → (store_in swept).at b ≡ (store_in book).at b
  held-stays b j some =
      let page = false_from_ne_true (is_of_page w.file w.page b)
      (λ of. no-some (held_among shards b j) (went.page b of j) some) in
      let inode = false_from_ne_true (is_addr (Inode w.file) b)
      (λ is. no-some (held_among shards b j)
      (ap (λ c. held_among shards c j) (sym (is_addr-same (Inode w.file) b is)) ∙ went.inode j) some) in
      sweeps.at b ∙ (λ i. cond (page i) None (cond (inode i) w.inode ((store_in book).at b)))

  pub swept-others : KeepsAll before after
  swept-others id = record {
    objects = λ b j other some. held-stays b j some;
    lasts = λ n j other some. sweeps.last n;
    holds = λ b j other. went.holds b j;
    living = λ key r other there. ap (λ (b : BookValue). running_at b.living key) rest ∙ there;
    lived = λ key r other there. sym (ap (λ (b : BookValue). running_at b.living key) rest) ∙ there;
    ids = (let ids = same-ids in omega (arith, ids));
    generations = λ i. (let next = went.counters i in omega (arith, next));
    setting = ap (λ (b : BookValue). b.setting) rest;
  }

  pub swept-counters : KeepsCounters before after
  swept-counters = record { ids = same-ids; generations = went.counters }
