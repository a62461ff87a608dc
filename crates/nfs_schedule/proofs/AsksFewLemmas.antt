-- What a call has read and wants next holds few addresses at which nothing stands.
use Rattle.std.proofs.Common.{◌≡◌, ℕ, ◌+◌, ◌≤◌, Bool, cond, List, [], ◌∷◌, map}
use Rattle.std.proofs.Common.{◌++◌, length, inl, inr, Some, None, sym, ◌∙◌, ap}
use Rattle.std.proofs.Common.{subst, arith}
use Rattle.std.proofs.lemmas.List.{length-map, map-append}
use Rattle.std.proofs.lemmas.List.Sums.{count_by-le-length, sum_by-append}
use Rattle.std.specs.Option.{is_none}
use Rattle.std.specs.Vec.Iter.{into_iter_items}
use Rattle.nfs_machine.specs.WellFormed.{WellFormed}
use Rattle.nfs_objects.proofs.AsksFewLemmas.{few-among, fits-before, have-entries, names-stay, read-among}
use Rattle.nfs_objects.specs.Attempt.{Attempts}
use Rattle.nfs_objects.specs.Bound.{Given, Grows, Read, Round, StillNames, asked_count, empty_count, held, view_after}
use Rattle.nfs_objects.specs.Bound.{with_round}
use Rattle.nfs_objects.specs.Calls.{named_by, new_numbers}
use Rattle.nfs_objects.specs.Fits.{Fits, vacant}
use Rattle.nfs_objects.specs.Sound.{Sound}
use Rattle.nfs_objects.specs.Stands.{StoreMeaning, Represents}
use Rattle.nfs_objects.specs.Store.{Store}
use Rattle.nfs_objects.specs.Values.{Seen, ViewValue}
use Rattle.nfs_objects.specs.declared.address.Addr.{Addr}
use Rattle.nfs_objects.specs.declared.change.Outcome.{Outcome}
use Rattle.nfs_objects.specs.declared.change.Outcome.TheVariants.{Need, Fresh}
use Rattle.nfs_objects.specs.declared.modes.Mode.{Mode}
use Rattle.nfs_engine.specs.Calls.{TxnValue, txn_of}
use Rattle.nfs_schedule.proofs.ViewRoundsLemmas.{grown_none}
use Rattle.nfs_schedule.specs.Courses.{CoursesAreFew}
use Rattle.nfs_schedule.specs.Grown.{HasGrown, IsAsking, IsGrown, IsNumbering, ReadsFew}
use Rattle.nfs_schedule.specs.Order.{executed_by}
use Rattle.nfs_schedule.specs.declared.course.Course.TheVariants.{Begun, FirstHandle, Acquiring, Planned, Reserving}
use Rattle.nfs_schedule.specs.declared.model.worker.Worker.{Worker}
use Rattle.nfs_schedule.specs.declared.model.worker.Worker.TheVariants.{Idle, Trying, Wanting, WantingNumbers, Ready}
use Rattle.nfs_schedule.specs.declared.model.worker.Worker.TheVariants.{Blocked}
use Rattle.nfs_schedule.specs.declared.model.worker.Worker.TheVariants.{Failing}
use Rattle.nfs_schedule.specs.declared.model.worker.Worker.TheVariants.{Leaving, PutOff, Refusing}

-- ---- rounds
module _ (s : Store) where
  abbrev is_empty : Addr × Mode → Bool
  is_empty a = is_none (s.at a.0)

  empty_both : (xs ys : List Seen) →
      empty_count s (held (xs ++ ys)) ≡ empty_count s (held xs) + empty_count s (held ys)
  empty_both xs ys =
      ap (λ (l : List (Addr × Mode)). empty_count s l) (map-append (λ (e : Seen). (e.address, e.mode)) xs ys)
      ∙ sum_by-append (λ (a : Addr × Mode). cond {A = ℕ} (is_empty a) 1 0) (held xs) (held ys)

-- ---- workers
pub few_grown : (t : TxnValue) → HasGrown t → ReadsFew (Trying t) t
few_grown t g s k fits stands sound formed =
    let few = read-among t.call t.ctx s k stands sound formed (named_by t.call (view_after g.rounds)) g.rounds g.grows
    (subst (λ (v : ViewValue). Fits v s) g.view_is fits) (λ a among. among) in
    let same = subst
    (λ (v : ViewValue). empty_count s (held v.entries) ≤ length (named_by t.call v) + new_numbers t.call v)
    (sym g.view_is) few in
    omega (arith, same)

-- of what an attempt asked for some was given
few_part : (t : TxnValue) (before : List Round) (round : Round) (outcome : Outcome) → Grows t.call t.ctx before →
    Attempts t.call t.ctx (view_after before) outcome → t.view ≡ with_round (view_after before) round →
    (s : Store) (k : StoreMeaning) → Fits t.view s → Represents s k → Sound k → WellFormed k.state →
    empty_count s (held (view_after before).entries) + asked_count s outcome ≤
    length (named_by t.call t.view) + new_numbers t.call t.view
few_part t before round outcome grows attempts is s k fits stands sound formed =
    let later : StillNames t.call (view_after before) t.view =
    subst (λ (v : ViewValue). StillNames t.call (view_after before) v) (sym is)
    (names-stay t.call (view_after before) round) in
    let whole : Fits (with_round (view_after before) round) s = subst (λ (v : ViewValue). Fits v s) is fits in
    let few = few-among t.call t.ctx s k stands sound formed (named_by t.call t.view) before outcome grows attempts
    (fits-before s (view_after before) round (have-entries before) whole) later.named in
    omega (arith, few, later.numbers)

few_asking : (t : TxnValue) (left : List (Addr × Mode)) (s : Store) (k : StoreMeaning) → IsAsking t left →
    Fits t.view s → Represents s k → Sound k → WellFormed k.state →
    empty_count s (held t.view.entries) + empty_count s left ≤
    length (named_by t.call t.view) + new_numbers t.call t.view
few_asking t left s k a fits stands sound formed =
    omega (
      arith,
      ap (λ (v : ViewValue). empty_count s (held v.entries)) a.view_is,
      empty_both s (view_after a.before).entries a.given,
      ap (λ (l : List (Addr × Mode)). empty_count s l) a.whole,
      sum_by-append (λ (x : Addr × Mode). cond {A = ℕ} (is_none (s.at x.0)) 1 0) (held a.given) left,
      few_part t a.before (Read a.given) (Need a.asked) a.grows a.attempts a.view_is s k fits stands sound formed,
    )

few_numbering : (t : TxnValue) (left : ℕ) (s : Store) (k : StoreMeaning) → IsNumbering t left →
    Fits t.view s → Represents s k → Sound k → WellFormed k.state →
    empty_count s (held t.view.entries) + left ≤ length (named_by t.call t.view) + new_numbers t.call t.view
few_numbering t left s k n fits stands sound formed =
    omega (
      arith,
      ap (λ (v : ViewValue). empty_count s (held v.entries)) n.view_is,
      empty_both s (view_after n.before).entries (map vacant n.given),
      count_by-le-length (is_empty s) (held (map vacant n.given)),
      length-map {B = Addr × Mode} (map vacant n.given) (λ (e : Seen). (e.address, e.mode)),
      length-map n.given vacant,
      n.whole,
      few_part t n.before (Given n.given) (Fresh n.count) n.grows n.attempts n.view_is s k fits stands sound formed,
    )

is_executed : (w : Worker) (x t : TxnValue) → Some x ≡ Some t → ReadsFew w x → ReadsFew w t
is_executed w x t is few = let same : x ≡ t = cc in subst (λ (y : TxnValue). ReadsFew w y) same few

nobody : (w : Worker) (t : TxnValue) → None ≡ Some t → ReadsFew w t
nobody w t is = cc

pub reads_few : (w : Worker) (t : TxnValue) → executed_by w ≡ Some t → IsGrown w → ReadsFew w t
reads_few (Trying x) t is g = is_executed (Trying x) x t is (few_grown x g)
reads_few (Wanting x wanted) t is g =
    is_executed (Wanting x wanted) x t is
    (λ s k fits stands sound formed. few_asking x (into_iter_items wanted) s k g fits stands sound formed)
reads_few (WantingNumbers x left) t is n =
    is_executed (WantingNumbers x left) x t is
    (λ s k fits stands sound formed. few_numbering x left s k n fits stands sound formed)
reads_few (Ready d) t is g = is_executed (Ready d) (txn_of d) t is (few_grown (txn_of d) g)
reads_few (Blocked x) t is g = is_executed (Blocked x) x t is (few_grown x g)
reads_few (Failing x) t is (inl g) = is_executed (Failing x) x t is (few_grown x g)
reads_few (Failing x) t is (inr n) =
    is_executed (Failing x) x t is (λ s k fits stands sound formed.
    let few = few_numbering x n.0 s k n.1 fits stands sound formed in omega (arith, few))
reads_few Idle t is g = nobody Idle t is
reads_few (Leaving r after) t is g = nobody (Leaving r after) t is
reads_few (PutOff p) t is g = nobody (PutOff p) t is
reads_few (Refusing p) t is g = nobody (Refusing p) t is

-- ---- calls on their course
pub courses-few : CoursesAreFew
courses-few Begun t unread = few_grown t (grown_none t unread)
courses-few (FirstHandle address mode) t a =
    λ s k fits stands sound formed. few_asking t ((address, mode) ∷ []) s k a fits stands sound formed
courses-few (Acquiring wanted plan) t a =
    λ s k fits stands sound formed. few_asking t (into_iter_items wanted) s k a fits stands sound formed
courses-few (Planned plan) t g = few_grown t g
courses-few (Reserving left plan) t n =
    λ s k fits stands sound formed. few_numbering t left s k n fits stands sound formed
