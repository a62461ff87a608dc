-- A call that left lets all go at once.
use Rattle.std.proofs.Common.{◌≡◌, ℕ, ◌<◌, ◌+◌, ◌==◌, ◌&&◌, Bool, true, false, not, cond, List, set, get_or, length}
use Rattle.std.proofs.Common.{Option, Some, None, is_some, option_map, refl, sym, ◌∙◌, ap, subst, arith}
use Rattle.std.proofs.lemmas.List.{get_or-set_other, get_or-set_same}
use Rattle.nfs_objects.specs.Values.{Seen, seen_at}
use Rattle.nfs_objects.specs.declared.address.Addr.{Addr}
use Rattle.nfs_objects.specs.declared.modes.Mode.{Mode}
use Rattle.nfs_engine.proofs.ShardLetGoLemmas.{below_sixteen}
use Rattle.nfs_engine.proofs.LeftCallLemmas.{kept_where, still_leads, waits_for}
use Rattle.nfs_engine.proofs.OneShardOfSixteenLemmas.{alike_or}
use Rattle.nfs_engine.proofs.HolderModeLemmas.{Reholds, Turn, reheld_others, reheld_own, reheld_tied}
use Rattle.nfs_engine.specs.Book.{BookValue}
use Rattle.nfs_engine.specs.Calls.{PendingValue}
use Rattle.nfs_engine.specs.Engine.{AreLeft, EngineValue, Frees, IsLeaving, IsTied, LeadsOn, LeadsTo, LetsAllGo, freed}
use Rattle.nfs_engine.specs.Engine.{held_among, is_free, kept_by, pending_after}
use Rattle.nfs_engine.specs.Releases.{ReleaseValue}
use Rattle.nfs_engine.specs.Shards.{ShardValue, shard_of}
use Rattle.nfs_engine.specs.declared.release.Then.{Then}
use Rattle.nfs_engine.specs.declared.release.Then.TheVariants.{Aborted, Ended}

-- ---- which shards are left
-- the shards below the bound are marked
abbrev pub MarkedTo : (done left : List Bool) → (bound : ℕ) → Type 0
MarkedTo done left bound = (k : ℕ) → k < bound → get_or left k false ≡ not (get_or done k false)

pub one_marked : (done left : List Bool) (i : ℕ) (d : Bool) → MarkedTo done left i → i < length left →
    d ≡ not (get_or done i false) → MarkedTo done (set left i d) (i + 1)
one_marked done left i d marked within is k below = alike_or k i
    (λ same. ap (λ j. get_or (set left i d) j false) same ∙ get_or-set_same left i d false within ∙ is ∙
    ap (λ j. not (get_or done j false)) (sym same))
    (λ apart. get_or-set_other left i k d false apart ∙ marked k (omega arith))

-- ---- all goes
module _ (book : BookValue) (old new : List ShardValue) (left : List Bool) (r : ReleaseValue)
    (tied : IsTied (record { book = book; shards = old }))
    (leaving : IsLeaving (record { book = book; shards = old }) r)
    (are : AreLeft r left) (frees : Frees old new left r.id r.view.entries) where
  abbrev before : EngineValue
  before = record { book = book; shards = old }

  abbrev after : EngineValue
  after = record { book = book; shards = new }

  abbrev turn : Turn
  turn b m = cond (freed left r.view.entries b) None m

  all : Reholds old new r.id turn
  all = record {
    objects = frees.objects;
    holds = λ b j. frees.holds b j ∙ swapped (r.id == j) (freed left r.view.entries b) (held_among old b j);
    counters = λ k. (let same = frees.counters k in omega arith);
    indices = frees.indices;
  }
    where
      swapped : (u t : Bool) (m : Option Mode) →
          elim (u && t) [ true ↦ None | false ↦ m ] ≡ cond u (cond t None m) m
      swapped u t m = elim u as (λ u. elim (u && t) [ true ↦ None | false ↦ m ] ≡ cond u (cond t None m) m) [
        | true ↦ elim t as (λ t. elim t [ true ↦ None | false ↦ m ] ≡ cond t None m) [ true ↦ refl | false ↦ refl ]
        | false ↦ refl
      ]

  -- what was not read is not held
  unread : (t : Bool) (x : Option Seen) →
      cond (not t && is_some x) None (kept_where t (option_map (λ (e : Seen). e.mode) x)) ≡ None
  unread true (Some e) = refl
  unread true None = refl
  unread false (Some e) = refl
  unread false None = refl

  nothing : (b : Addr) → held_among new b r.id ≡ None
  nothing b = reheld_own book old new r.id turn all b ∙ ap (turn b) (leaving.holds.exactly b) ∙
      ap (λ t. cond (t && is_some (seen_at r.view.entries b)) None (kept_by r b))
      (are (shard_of b) (below_sixteen b)) ∙ unread (is_free r (shard_of b)) (seen_at r.view.entries b)

  leads_on : (t : Then) → r.after ≡ t → LeadsOn after r (pending_after t)
  leads_on (Aborted p) is = (
    is,
    waits_for after r.id p (still_leads book old new r.id (Aborted p)
        (subst (λ (t : Then). LeadsTo before r.id t) is leaving.after)) nothing leaving.holds.known,
  )
  leads_on Ended is = is

  pub loosed_tied : IsTied after
  loosed_tied = reheld_tied book old new r.id turn all leaving.holds.known tied

  pub loosed : (p : Option PendingValue) → p ≡ pending_after r.after → LetsAllGo before after r p
  loosed p is = record {
    others = reheld_others book old new r.id turn all;
    counters = record { ids = refl; generations = frees.counters };
    nothing = nothing;
    book = refl;
    leads = subst (λ (o : Option PendingValue). LeadsOn after r o) (sym is) (leads_on r.after refl);
  }

-- ---- what comes then
pub aborted_after : (t : Then) (p : PendingValue) → Some p ≡ pending_after t → t ≡ Aborted p
aborted_after (Aborted q) p is = cc
aborted_after Ended p is = cc

pub ended_after : (t : Then) → None ≡ pending_after t → t ≡ Ended
ended_after (Aborted q) is = cc
ended_after Ended is = refl
