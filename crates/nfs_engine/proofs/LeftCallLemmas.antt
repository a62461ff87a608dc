-- What is left of a call that let go a shard.
use Rattle.std.proofs.Common.{◌≡◌, ℕ, zero, suc, ◌<◌, ◌≤◌, ◌+◌, ◌==◌, ◌&&◌}
use Rattle.std.proofs.Common.{Bool, true, false, cond, List, [], ◌∷◌}
use Rattle.std.proofs.Common.{get_or, set, length, replicate, take, slice_get, Option, Some, None, IsSome, is_some}
use Rattle.std.proofs.Common.{option_map, refl, sym, ◌∙◌, ap, subst, arith}
use Rattle.std.specs.Cmp.{unsigned_Decides}
use Rattle.std.specs.List.{AllByRecursion}
use Rattle.std.proofs.lemmas.List.{get_or-set_other, get_or-set_same, take_all}
use Rattle.nfs_objects.proofs.SeenLemmas.{all-append, is_addr-refl, is_addr-same}
use Rattle.nfs_objects.specs.Values.{Seen, is_addr, seen_at}
use Rattle.nfs_objects.specs.declared.address.Addr.{Addr}
use Rattle.nfs_objects.specs.declared.modes.Mode.{Mode}
use Rattle.nfs_engine.proofs.ShardLetGoLemmas.{below_sixteen}
use Rattle.nfs_engine.proofs.LetGoEntryLemmas.{further}
use Rattle.nfs_engine.proofs.OneShardOfSixteenLemmas.{any_default, each_shard, elsewhere, here}
use Rattle.nfs_engine.proofs.HolderModeLemmas.{Reholds, let_go, lets_go_holds, lifted, only_in, reheld_holds}
use Rattle.nfs_engine.proofs.HolderModeLemmas.{reheld_others, reheld_tied}
use Rattle.nfs_engine.specs.Book.{BookValue}
use Rattle.nfs_engine.specs.Calls.{PendingValue}
use Rattle.nfs_engine.specs.Engine.{EngineValue, FreesOne, HoldsNothing, HoldsSome, IsLeaving, IsNext, IsTied}
use Rattle.nfs_engine.specs.Engine.{KeepsCounters, KeepsOthers, LeadsTo, Releases, Waits, freed_more, held_among}
use Rattle.nfs_engine.specs.Engine.{is_free, kept_by, mode_in, shard_among}
use Rattle.nfs_engine.specs.Taking.{LetsGo}
use Rattle.nfs_engine.specs.Releases.{ReleaseValue}
use Rattle.nfs_engine.specs.Shards.{ShardValue, shard_of}
use Rattle.nfs_engine.specs.declared.release.Next.{Next}
use Rattle.nfs_engine.specs.declared.release.Next.TheVariants as next
use Rattle.nfs_engine.specs.declared.release.Then.{Then}
use Rattle.nfs_engine.specs.declared.release.Then.TheVariants.{Aborted, Ended}

-- ---- which shards are free
-- the shards of these entries are
abbrev pub AreFree : ReleaseValue → List Seen → Type 0
AreFree r es = AllByRecursion (λ (e : Seen). is_free r (shard_of e.address) ≡ true) es

pub free_further : (r : ReleaseValue) (i : ℕ) (e : Seen) → AreFree r (take i r.view.entries) →
    slice_get r.view.entries i ≡ Some e → is_free r (shard_of e.address) ≡ true →
    AreFree r (take (i + 1) r.view.entries)
free_further r i e free there one = subst (λ (es : List Seen). AreFree r es) (sym (further r.view.entries i e there))
    (all-append (λ (e : Seen). is_free r (shard_of e.address) ≡ true) (take i r.view.entries) e free one)

-- then nothing is held
pub nothing_held : (r : ReleaseValue) (es : List Seen) → AreFree r es → (a : Addr) →
    is_free r (shard_of a) ≡ false →
    mode_in es a ≡ None
nothing_held r [] free a kept = refl
nothing_held r (e ∷ es) free a kept = elim (is_addr e.address a) as (λ t. is_addr e.address a ≡ t →
    option_map (λ (x : Seen). x.mode) (cond t (Some e) (seen_at es a)) ≡ None) [
      | true ↦ λ same. absurd (let no : true ≡ false = sym free.0 ∙
          ap (λ (b : Addr). is_free r (shard_of b)) (is_addr-same e.address a same) ∙ kept in cc)
      | false ↦ λ other. nothing_held r es free.1 a kept
    ] refl

pub holds_nothing : (r : ReleaseValue) → AreFree r r.view.entries → HoldsNothing r
holds_nothing r free a = elim (is_free r (shard_of a)) as (λ t. is_free r (shard_of a) ≡ t →
    elim t as (λ u. Option Mode) [ true ↦ None | false ↦ mode_in r.view.entries a ] ≡ None) [
      | true ↦ λ is. refl
      | false ↦ λ kept. nothing_held r r.view.entries free a kept
    ] refl

seen_same : (d e : Seen) → Some d ≡ Some e → d ≡ e
seen_same d e same = cc

-- what stands at a place of the view was read
seen_some : (es : List Seen) (i : ℕ) (e : Seen) → slice_get es i ≡ Some e → IsSome (mode_in es e.address)
seen_some [] i e there = (let no : None ≡ Some e = there in cc)
seen_some (d ∷ es) zero e there = subst (λ (x : Option Seen). IsSome (option_map (λ (y : Seen). y.mode) x))
    (sym (ap (λ t. cond t (Some d) (seen_at es e.address)) first)) refl
  where
    first : is_addr d.address e.address ≡ true
    first = ap (λ (x : Seen). is_addr d.address x.address) (sym (seen_same d e there)) ∙ is_addr-refl d.address
seen_some (d ∷ es) (suc i) e there = elim (is_addr d.address e.address) as (λ t.
    IsSome (option_map (λ (y : Seen). y.mode) (cond t (Some d) (seen_at es e.address)))) [
      | true ↦ refl
      | false ↦ seen_some es i e there
    ]

-- so the call holds something in a shard that is not free of it
pub holds_some : (r : ReleaseValue) (i : ℕ) (e : Seen) (k : ℕ) → slice_get r.view.entries i ≡ Some e →
    k ≡ shard_of e.address → is_free r k ≡ false → HoldsSome r k
holds_some r i e k there is kept = record {
  address = e.address;
  shard = sym is;
  held = subst (λ t. IsSome (elim t as (λ u. Option Mode) [ true ↦ None | false ↦ mode_in r.view.entries e.address ]))
      (sym (ap (is_free r) (sym is) ∙ kept)) (seen_some r.view.entries i e there);
}

-- a call that holds nothing holds nothing in any shard
pub none_held : (r : ReleaseValue) (k : ℕ) → HoldsNothing r → HoldsSome r k → ⊥
none_held r k nothing some =
    (let no : false ≡ true = subst (λ (m : Option Mode). IsSome m) (nothing some.address) some.held in cc)

none_free : (n k : ℕ) → get_or (replicate n false) k false ≡ false
none_free zero k = refl
none_free (suc n) zero = refl
none_free (suc n) (suc k) = none_free n k

-- what it leads to, by the book alone
pub still_leads : (book : BookValue) (shards others : List ShardValue) (id : ℕ) (t : Then) →
    LeadsTo (record { book = book; shards = shards }) id t → LeadsTo (record { book = book; shards = others }) id t
still_leads book shards others id (Aborted p) l = (
  l.0,
  record { running = l.1.running; there = l.1.there; same = l.1.same; came = l.1.came },
  l.2,
)
still_leads book shards others id Ended l = tt

-- ---- what a release comes to
-- a call that holds nothing any more may begin again
pub waits_for : (e : EngineValue) (id : ℕ) (p : PendingValue) → LeadsTo e id (Aborted p) →
    ((a : Addr) → held_among e.shards a id ≡ None) → id < e.book.next_id → Waits e p
waits_for e id p led nothing known = record {
  fits = record { entries = tt; reserved = tt };
  holds = record {
    exactly = λ a. ap (held_among e.shards a) led.0 ∙ nothing a;
    known = (let same = led.0 in omega arith);
  };
  fresh = tt;
  running = led.1;
  under = led.2;
}

waits_then : (e : EngineValue) (r : ReleaseValue) (p : PendingValue) → IsLeaving e r → HoldsNothing r →
    r.after ≡ Aborted p → Waits e p
waits_then e r p leaving nothing is = waits_for e r.id p (subst (λ (t : Then). LeadsTo e r.id t) is leaving.after)
    (λ a. leaving.holds.exactly a ∙ nothing a) leaving.holds.known

-- nothing was held
pub ended_releases : (e : EngineValue) (r : ReleaseValue) (n : Next) → IsLeaving e r → HoldsNothing r →
    IsNext r n → Releases e e r n
ended_releases e r (next.More left) leaving nothing is = absurd (none_held r is.1 nothing is.2)
ended_releases e r (next.Aborted p) leaving nothing is =
    (is.1, waits_then e r p leaving nothing is.1, None, (refl, nothing))
ended_releases e r next.Ended leaving nothing is =
    (is.1, λ a. leaving.holds.exactly a ∙ nothing a, None, (refl, nothing))

-- one shard was let go
next_releases : (old new : EngineValue) (r : ReleaseValue) (k : ℕ) (n : Next) → IsLeaving new (freed_more r k) →
    FreesOne old.shards new.shards r k → IsNext (freed_more r k) n → Releases old new r n
next_releases old new r k (next.More left) leaving frees is =
    (subst (λ (x : ReleaseValue). IsLeaving new x) (sym is.0) leaving, k, frees, is.0)
next_releases old new r k (next.Aborted p) leaving frees is =
    (is.1, waits_then new (freed_more r k) p leaving is.0 is.1, Some k, (frees, is.0))
next_releases old new r k next.Ended leaving frees is =
    (is.1, λ a. leaving.holds.exactly a ∙ is.0 a, Some k, (frees, is.0))

-- ---- one shard more is free
abbrev pub kept_where : Bool → Option Mode → Option Mode
kept_where t m = elim t [ true ↦ None | false ↦ m ]

-- where it holds something, the shard is not free of it
pub not_free : (r : ReleaseValue) (k : ℕ) → HoldsSome r k → is_free r k ≡ false
not_free r k some = elim (is_free r k) as (λ t. is_free r k ≡ t → t ≡ false) [
  | true ↦ λ free. (let no : false ≡ true = subst (λ t. IsSome (kept_where t (mode_in r.view.entries some.address)))
      (ap (is_free r) some.shard ∙ free) some.held in cc)
  | false ↦ λ kept. refl
] refl

-- and is one of the sixteen
pub shard_within : (r : ReleaseValue) (k : ℕ) → HoldsSome r k → k < 16
shard_within r k some = subst (λ j. j < 16) some.shard (below_sixteen some.address)

module _ (book : BookValue) (shards : List ShardValue) (k : ℕ) (was s : ShardValue) (within : k < length shards)
    (r : ReleaseValue) (there : k < length r.done) (tied : IsTied (record { book = book; shards = shards }))
    (leaving : IsLeaving (record { book = book; shards = shards }) r)
    (sixteen : k < 16)
    (went : LetsGo (get_or shards k was) s (get_or shards k was).index r.id r.view.entries) where
  abbrev pub before : EngineValue
  before = record { book = book; shards = shards }

  abbrev pub after : EngineValue
  after = record { book = book; shards = set shards k s }

  -- the shard of this index is the one at this place
  place : (get_or shards k was).index ≡ k
  place = ap (λ (x : ShardValue). x.index) (any_default shards k was within) ∙ tied.indices k sixteen

  go : LetsGo (get_or shards k was) s k r.id r.view.entries
  go = subst (λ i. LetsGo (get_or shards k was) s i r.id r.view.entries) place went

  all : Reholds shards (set shards k s) r.id (only_in k (let_go k r.view.entries))
  all = lifted shards k s r.id (let_go k r.view.entries) within (lets_go_holds (shard_among shards k) s k r.id
      r.view.entries (subst (λ (x : ShardValue). LetsGo x s k r.id r.view.entries)
      (any_default shards k was within) go))

  pub left_others : KeepsOthers r.id before after
  left_others = reheld_others book shards (set shards k s) r.id (only_in k (let_go k r.view.entries)) all

  pub left_tied : IsTied after
  left_tied = reheld_tied book shards (set shards k s) r.id (only_in k (let_go k r.view.entries)) all
      leaving.holds.known tied

  -- what was not read is not held
  unread : (t : Bool) (x : Option Seen) →
      cond (is_some x) None (kept_where t (option_map (λ (e : Seen). e.mode) x)) ≡ None
  unread t (Some e) = refl
  unread true None = refl
  unread false None = refl

  turned : (b : Addr) → only_in k (let_go k r.view.entries) b (kept_by r b) ≡ kept_by (freed_more r k) b
  turned b = elim (shard_of b == k) as (λ t. (shard_of b == k) ≡ t →
      cond t (cond (t && is_some (seen_at r.view.entries b)) None (kept_by r b)) (kept_by r b) ≡
      kept_where (get_or (set r.done k true) (shard_of b) false) (mode_in r.view.entries b)) [
        | true ↦ λ here. unread (get_or r.done (shard_of b) false) (seen_at r.view.entries b) ∙
            sym (ap (λ t. kept_where t (mode_in r.view.entries b))
            (ap (λ j. get_or (set r.done k true) j false) ((unsigned_Decides (shard_of b) k).0 here) ∙
            get_or-set_same r.done k true false there))
        | false ↦ λ other. ap (λ t. kept_where t (mode_in r.view.entries b))
            (sym (get_or-set_other r.done k (shard_of b)
            true false (λ is. (let both : (shard_of b == k) ≡ true = (unsigned_Decides (shard_of b) k).1 is in
            let no : true ≡ false = sym both ∙ other in cc))))
      ] refl

  left_leaving : IsLeaving after (freed_more r k)
  left_leaving = record {
    holds = reheld_holds book shards (set shards k s) r.id (only_in k (let_go k r.view.entries)) all (kept_by r)
        (kept_by (freed_more r k)) leaving.holds turned;
    after = still_leads book shards (set shards k s) r.id r.after leaving.after;
  }

  pub left_counters : KeepsCounters before after
  left_counters = record {
    ids = refl;
    generations = each_shard shards k s within (λ x y. y.next_generation ≡ x.next_generation)
        (go.next_generation ∙ ap (λ (x : ShardValue). x.next_generation) (any_default shards k was within))
        (λ x. refl);
  }

  left_one : HoldsSome r k → FreesOne shards (set shards k s) r k
  left_one held = record {
    held = held;
    shard = subst (λ (x : ShardValue). LetsGo (shard_among shards k) x k r.id r.view.entries)
        (sym (here shards k s within))
        (subst (λ (x : ShardValue). LetsGo x s k r.id r.view.entries) (any_default shards k was within) go);
    others = elsewhere shards k s within;
  }

  pub left_next : (n : Next) → HoldsSome r k → IsNext (freed_more r (get_or shards k was).index) n →
      Releases before after r n
  left_next n held is = next_releases before after r k n left_leaving (left_one held)
      (subst (λ i. IsNext (freed_more r i) n) place is)

-- all entries
pub past_all : (r : ReleaseValue) (i : ℕ) → length r.view.entries ≤ i → AreFree r (take i r.view.entries) →
    AreFree r r.view.entries
past_all r i past free = subst (λ (es : List Seen). AreFree r es) (take_all i r.view.entries past) free

-- behind a place where nothing is, nothing is
none_past : (es : List Seen) (i : ℕ) → None ≡ slice_get es i → length es ≤ i
none_past [] i is = omega arith
none_past (e ∷ es) zero is = cc
none_past (e ∷ es) (suc i) is = (let less = none_past es i is in omega arith)

pub past_none : (r : ReleaseValue) (i : ℕ) → None ≡ slice_get r.view.entries i →
    AreFree r (take i r.view.entries) →
    AreFree r r.view.entries
past_none r i is free = past_all r i (none_past r.view.entries i is) free
