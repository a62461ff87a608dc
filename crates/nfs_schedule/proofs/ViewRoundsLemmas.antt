-- What a worker's call has read grows by rounds: each turn keeps that.
use Rattle.std.proofs.Common.{◌≡◌, ℕ, ◌+◌, ◌<◌, ◌≤◌, arith, false, inl, inr, List, [], ◌∷◌, ◌++◌, append-nil}
use Rattle.std.proofs.Common.{append_assoc, length, length-append, map}
use Rattle.std.proofs.Common.{Option, Some, None, refl, sym, ◌∙◌, ap, subst}
use Rattle.std.specs.List.{AllByRecursion}
use Rattle.std.specs.Vec.Iter.{into_iter_items}
use Rattle.std.proofs.lemmas.List.{map-append}
use Rattle.std.specs.declared.alloc.Global.{Global}
use Rattle.std.specs.declared.vec.Vec.{Vec}
use Rattle.nfs_machine.specs.declared.calls.Call.{Call}
use Rattle.nfs_machine.specs.declared.context.Ctx.{Ctx}
use Rattle.nfs_objects.proofs.SeenLemmas.{all-map}
use Rattle.nfs_objects.specs.Asks.{EachOnce}
use Rattle.nfs_objects.specs.Attempt.{AsksFirst, Attempts}
use Rattle.nfs_objects.specs.Bound.{Given, Read, WasAsked, held, view_after, with_round}
use Rattle.nfs_objects.specs.Fits.{vacant}
use Rattle.nfs_objects.specs.Rooms.{with_seen, with_number}
use Rattle.nfs_objects.specs.Values.{Seen, ViewValue, is_addr}
use Rattle.nfs_objects.specs.declared.address.Addr.{Addr}
use Rattle.nfs_objects.specs.declared.change.Outcome.{Outcome}
use Rattle.nfs_objects.specs.declared.change.Outcome.TheVariants.{Need, Fresh}
use Rattle.nfs_objects.specs.declared.modes.Mode.{Mode}
use Rattle.nfs_objects.specs.declared.object.Object.{Object}
use Rattle.nfs_objects.specs.declared.view.Reserved.{Reserved}
use Rattle.nfs_engine.specs.Arrivals.{ArrivalValue}
use Rattle.nfs_engine.specs.Book.{store_in}
use Rattle.nfs_engine.specs.Calls.{FinishedValue, PendingValue, TxnValue, again_of, txn_of}
use Rattle.nfs_engine.specs.Engine.{EngineValue}
use Rattle.nfs_engine.specs.Releases.{ReleaseValue}
use Rattle.nfs_schedule.proofs.ArrivalsLemmas.{unacquired, unreserved_same}
use Rattle.nfs_schedule.specs.Grown.{AsksFor, HasGrown, IsAsking, IsGrown, IsNumbering}
use Rattle.nfs_schedule.specs.Turns.{Acquires, Admits, Declines, EndsTurn, Follows, Gains, IsNamed, KeepsQueue}
use Rattle.nfs_schedule.specs.Turns.{TakesArrival}
use Rattle.nfs_schedule.specs.Turns.{TakesFirst, Turns, after_all}
use Rattle.nfs_schedule.specs.Workers.{Comes, Thinks}
use Rattle.nfs_schedule.specs.declared.answer.Answer.{Answer}
use Rattle.nfs_schedule.specs.declared.model.worker.Afterwards.{Afterwards}
use Rattle.nfs_schedule.specs.declared.model.worker.Afterwards.TheVariants.{Again, GiveUp}
use Rattle.nfs_schedule.specs.declared.model.worker.Worker.{Worker}
use Rattle.nfs_schedule.specs.declared.model.worker.Worker.TheVariants.{Idle, Trying, Wanting, WantingNumbers, Ready}
use Rattle.nfs_schedule.specs.declared.model.worker.Worker.TheVariants.{Blocked}
use Rattle.nfs_schedule.specs.declared.model.worker.Worker.TheVariants.{Failing}
use Rattle.nfs_schedule.specs.declared.model.worker.Worker.TheVariants.{Leaving, PutOff, Refusing}

-- ---- a beginning of what was asked for
pub front_all : {X : Type 0} (P : X → Type 0) (xs ys : List X) → AllByRecursion P (xs ++ ys) → AllByRecursion P xs
front_all P [] ys all = tt
front_all P (x ∷ xs) ys all = (all.0, front_all P xs ys all.1)

pub front_once : (xs ys : List (Addr × Mode)) → EachOnce (xs ++ ys) → EachOnce xs
front_once [] ys once = tt
front_once (x ∷ xs) ys once =
    (front_all (λ (b : Addr × Mode). is_addr x.0 b.0 ≡ false) xs ys once.0, front_once xs ys once.1)

front_asked : (xs ys : List (Addr × Mode)) → AllByRecursion (WasAsked (xs ++ ys)) xs
front_asked [] ys = tt
front_asked (x ∷ xs) ys = (
  inl refl,
  all-map (WasAsked (xs ++ ys)) (WasAsked (x ∷ xs ++ ys)) (λ a was. inr was) xs (front_asked xs ys),
)

-- ---- what a call has read
-- it has read nothing
pub grown_none : (t : TxnValue) → t.view ≡ record { entries = []; reserved = [] } → HasGrown t
grown_none t none = record { rounds = []; grows = tt; view_is = none }

-- some of what was asked for was given
pub grown_part : (t : TxnValue) (left : List (Addr × Mode)) → IsAsking t left → HasGrown t
grown_part t left a = record {
  rounds = Read a.given ∷ a.before;
  grows = (
    Need a.asked,
    a.attempts,
    (
      front_once (held a.given) left (subst (λ (l : List (Addr × Mode)). EachOnce l) a.whole a.attempts.once),
      subst (λ (l : List (Addr × Mode)). AllByRecursion (WasAsked l) (held a.given)) (sym a.whole)
          (front_asked (held a.given) left),
    ),
    a.grows,
  );
  view_is = a.view_is;
}

-- what an attempt may ask for
pub asking_alone : (t : TxnValue) (asked : Vec (Addr × Mode) Global) (wanted : List (Addr × Mode)) → HasGrown t →
    Attempts t.call t.ctx t.view (Need asked) → asked.items ≡ wanted → IsAsking t wanted
asking_alone t asked wanted g attempts whole = record {
  before = g.rounds;
  grows = g.grows;
  asked = asked;
  attempts = subst (λ (v : ViewValue). Attempts t.call t.ctx v (Need asked)) g.view_is attempts;
  given = [];
  whole = whole;
  view_is =
      g.view_is
      ∙ ap (λ es. record (view_after g.rounds) { entries = es }) (sym (append-nil (view_after g.rounds).entries));
}

-- an attempt asks
pub asking_all : (t : TxnValue) (wanted : List (Addr × Mode)) → HasGrown t → AsksFor t wanted → IsAsking t wanted
asking_all t wanted g asks = asking_alone t asks.asked wanted g asks.attempts asks.whole

-- the first address of what is left is given
module _ (t u : TxnValue) (a : Addr × Mode) (left : List (Addr × Mode)) (o : Option Object)
    (is : u ≡ record t { view = with_seen t.view (record { address = a.0; mode = a.1; object = o }) })
    (asking : IsAsking t (a ∷ left)) where
  abbrev entry : Seen
  entry = record { address = a.0; mode = a.1; object = o }

  pub asking_less : IsAsking u left
  asking_less = subst (λ (x : TxnValue). IsAsking x left) (sym is) (record {
    before = asking.before;
    grows = asking.grows;
    asked = asking.asked;
    attempts = asking.attempts;
    given = asking.given ++ entry ∷ [];
    whole =
        asking.whole
        ∙ sym (append_assoc (held asking.given) (a ∷ []) left)
        ∙ ap (λ (l : List (Addr × Mode)). l ++ left)
        (sym (map-append (λ (e : Seen). (e.address, e.mode)) asking.given (entry ∷ [])));
    view_is =
        ap (λ (v : ViewValue). with_seen v entry) asking.view_is
        ∙ ap (λ es. record (view_after asking.before) { entries = es })
        (append_assoc (view_after asking.before).entries asking.given (entry ∷ []));
  })

-- an attempt asks for new numbers
pub numbering_all : (t : TxnValue) (count : ℕ) → HasGrown t → Attempts t.call t.ctx t.view (Fresh count) →
    IsNumbering t count
numbering_all t count g attempts = record {
  before = g.rounds;
  grows = g.grows;
  count = count;
  attempts = subst (λ (v : ViewValue). Attempts t.call t.ctx v (Fresh count)) g.view_is attempts;
  given = [];
  whole = omega arith;
  some = attempts.some;
  view_is =
      g.view_is
      ∙ (λ i. record {
        entries = sym (append-nil (view_after g.rounds).entries) i;
        reserved = sym (append-nil (view_after g.rounds).reserved) i;
      });
}

-- one of those that are left is given
module _ (t u : TxnValue) (r : Reserved) (left : ℕ) (is : u ≡ record t { view = with_number t.view r })
    (n : IsNumbering t left) where
  abbrev given : List Reserved
  given = n.given ++ r ∷ []

  given_is : with_number t.view r ≡ with_round (view_after n.before) (Given given)
  given_is =
      ap (λ (v : ViewValue). with_number v r) n.view_is
      ∙ (λ i. record {
        entries =
            (append_assoc (view_after n.before).entries (map vacant n.given) (vacant r ∷ [])
            ∙ ap (λ (es : List Seen). (view_after n.before).entries ++ es)
            (sym (map-append vacant n.given (r ∷ [])))) i;
        reserved = append_assoc (view_after n.before).reserved n.given (r ∷ []) i;
      })

  pub numbering_less : (others : ℕ) → 1 < left → left ≡ others + 1 → IsNumbering u others
  numbering_less others more count = subst (λ (x : TxnValue). IsNumbering x others) (sym is) (record {
    before = n.before;
    grows = n.grows;
    count = n.count;
    attempts = n.attempts;
    given = given;
    whole = omega (arith, n.whole, count, length-append n.given (r ∷ []));
    some = omega (arith, more, count);
    view_is = given_is;
  })

  pub grown_numbers : left ≤ 1 → HasGrown u
  grown_numbers last =
      let all : length given ≡ n.count = omega (arith, n.whole, n.some, last, length-append n.given (r ∷ [])) in
      subst (λ (x : TxnValue). HasGrown x) (sym is) (record {
        rounds = Given given ∷ n.before;
        grows = (Fresh n.count, n.attempts, all, n.grows);
        view_is = given_is;
      })

-- ---- thinking
-- what an attempt on the call's view came to is asked for
pub asks_need : (t : TxnValue) (call : Call) (ctx : Ctx) (view : ViewValue) (outcome : Outcome)
    (asked : Vec (Addr × Mode) Global) (wanted : List (Addr × Mode)) → Attempts call ctx view outcome →
    AsksFirst call view outcome → outcome ≡ Need asked → call ≡ t.call → ctx ≡ t.ctx → view ≡ t.view
    → wanted ≡ asked.items →
    AsksFor t wanted
asks_need t call ctx view outcome asked wanted attempts first need called under seen listed = record {
  asked = asked;
  attempts =
      subst (λ (o : Outcome). Attempts t.call t.ctx t.view o) need
      (subst (λ (v : ViewValue). Attempts t.call t.ctx v outcome) seen
      (subst (λ (x : Ctx). Attempts t.call x view outcome) under
      (subst (λ (c : Call). Attempts c ctx view outcome) called attempts)));
  first =
      subst (λ (o : Outcome). AsksFirst t.call t.view o) need
      (subst (λ (v : ViewValue). AsksFirst t.call v outcome) seen
      (subst (λ (c : Call). AsksFirst c view outcome) called first));
  whole = sym listed;
}

comes_grown : (t : TxnValue) (v : Worker) → Comes t v → HasGrown t → IsGrown v
comes_grown t (Wanting u wanted) c g =
    subst (λ (x : TxnValue). IsAsking x (into_iter_items wanted)) (sym c.0)
    (asking_all t (into_iter_items wanted) g c.1)
comes_grown t (WantingNumbers u left) c g =
    subst (λ (x : TxnValue). IsNumbering x left) (sym c.0) (numbering_all t left g c.1)
comes_grown t (Ready d) c g = subst (λ (x : TxnValue). HasGrown x) (sym c.0) g
comes_grown t (Failing u) c g = inl (subst (λ (x : TxnValue). HasGrown x) (sym c) g)
comes_grown t Idle c g = absurd c
comes_grown t (Trying u) c g = absurd c
comes_grown t (Blocked u) c g = absurd c
comes_grown t (Leaving r after) c g = absurd c
comes_grown t (PutOff p) c g = absurd c
comes_grown t (Refusing p) c g = absurd c

same_grown : (w v : Worker) → v ≡ w → IsGrown w → IsGrown v
same_grown w v same g = subst (λ (x : Worker). IsGrown x) (sym same) g

thinks_grown : (w v : Worker) → Thinks w v → IsGrown w → IsGrown v
thinks_grown (Trying t) v c g = comes_grown t v c g
thinks_grown Idle v c g = same_grown Idle v c g
thinks_grown (Wanting t wanted) v c g = same_grown (Wanting t wanted) v c g
thinks_grown (WantingNumbers t left) v c g = same_grown (WantingNumbers t left) v c g
thinks_grown (Ready d) v c g = same_grown (Ready d) v c g
thinks_grown (Blocked t) v c g = same_grown (Blocked t) v c g
thinks_grown (Failing t) v c g = same_grown (Failing t) v c g
thinks_grown (Leaving r after) v c g = same_grown (Leaving r after) v c g
thinks_grown (PutOff p) v c g = same_grown (PutOff p) v c g
thinks_grown (Refusing p) v c g = same_grown (Refusing p) v c g

-- ---- a call that begins
admits_grown : (e f : EngineValue) (a : ArrivalValue) (v : Worker) (answer : Option Answer) →
    Admits e f a v answer → IsGrown v
admits_grown e f a (Trying t) None begins = grown_none t (ap (λ (x : TxnValue). x.view) begins.txn)
admits_grown e f a (Trying t) (Some answer) is = absurd is
admits_grown e f a Idle answer is = tt
admits_grown e f a (Wanting t wanted) answer is = absurd is
admits_grown e f a (WantingNumbers t left) answer is = absurd is
admits_grown e f a (Ready d) answer is = absurd is
admits_grown e f a (Blocked t) answer is = absurd is
admits_grown e f a (Failing t) answer is = absurd is
admits_grown e f a (Leaving r after) answer is = tt
admits_grown e f a (PutOff p) answer is = tt
admits_grown e f a (Refusing p) answer is = tt

takes_grown : (e f : EngineValue) (queue later : List ArrivalValue) (v : Worker) (answer : Option Answer) →
    TakesArrival e f queue later v answer → IsGrown v
takes_grown e f [] later v answer takes = same_grown Idle v takes.2 tt
takes_grown e f (a ∷ queue) later v answer takes = admits_grown e f a v answer takes.1

-- ---- the step of a call
acquires_grown : (e : EngineValue) (t : TxnValue) (a : Addr × Mode) (others : List (Addr × Mode)) (v : Worker) →
    Acquires e t a others v → IsAsking t (a ∷ others) → IsGrown v
acquires_grown e t a others (Trying u) is asking =
    grown_part u others (asking_less t u a others ((store_in e.book).at a.0) is.0 asking)
acquires_grown e t a others (Wanting u left) is asking =
    subst (λ (l : List (Addr × Mode)). IsAsking u l) (sym is.1)
    (asking_less t u a others ((store_in e.book).at a.0) is.0 asking)
acquires_grown e t a others (Blocked u) is asking =
    subst (λ (x : TxnValue). HasGrown x) (sym is.1.2) (grown_part t (a ∷ others) asking)
acquires_grown e t a others (Failing u) is asking =
    inl (subst (λ (x : TxnValue). HasGrown x) (sym (unacquired e t u a is.0 is.1)) (grown_part t (a ∷ others) asking))
acquires_grown e t a others Idle is asking = absurd is
acquires_grown e t a others (WantingNumbers u left) is asking = absurd is
acquires_grown e t a others (Ready d) is asking = absurd is
acquires_grown e t a others (Leaving r after) is asking = absurd is
acquires_grown e t a others (PutOff p) is asking = absurd is
acquires_grown e t a others (Refusing p) is asking = absurd is

first_grown : (e : EngineValue) (t : TxnValue) (wanted : List (Addr × Mode)) (v : Worker) →
    TakesFirst e t wanted v → IsAsking t wanted → IsGrown v
first_grown e t [] v is asking = same_grown (Trying t) v is (grown_part t [] asking)
first_grown e t (a ∷ others) v is asking = acquires_grown e t a others v is asking

gains_grown : (e : EngineValue) (shard : ℕ) (t : TxnValue) (left : ℕ) (v : Worker) → Gains e shard t left v →
    IsNumbering t left → IsGrown v
gains_grown e shard t left (Trying u) is n = grown_numbers t u is.0.reserved left is.0.call n is.1
gains_grown e shard t left (WantingNumbers u others) is n =
    numbering_less t u is.0.reserved left is.0.call n others is.1 is.2
gains_grown e shard t left (Failing u) is n =
    inr (left, subst (λ (x : TxnValue). IsNumbering x left) (sym (unreserved_same e shard t u is.0 is.1)) n)
gains_grown e shard t left Idle is n = absurd is
gains_grown e shard t left (Wanting u wanted) is n = absurd is
gains_grown e shard t left (Ready d) is n = absurd is
gains_grown e shard t left (Blocked u) is n = absurd is
gains_grown e shard t left (Leaving r after) is n = absurd is
gains_grown e shard t left (PutOff p) is n = absurd is
gains_grown e shard t left (Refusing p) is n = absurd is

ends_grown : (e f : EngineValue) (done : FinishedValue) (v : Worker) (answer : Option Answer) →
    EndsTurn e f done v answer → HasGrown (txn_of done) → IsGrown v
ends_grown e f done (Failing t) None is g = inl (subst (λ (x : TxnValue). HasGrown x) (sym is.0) g)
ends_grown e f done (Failing t) (Some answer) is g = absurd is
ends_grown e f done Idle answer is g = tt
ends_grown e f done (Leaving r after) answer is g = tt
ends_grown e f done (PutOff p) answer is g = tt
ends_grown e f done (Refusing p) answer is g = tt
ends_grown e f done (Trying t) answer is g = absurd is
ends_grown e f done (Wanting t wanted) answer is g = absurd is
ends_grown e f done (WantingNumbers t left) answer is g = absurd is
ends_grown e f done (Ready d) answer is g = absurd is
ends_grown e f done (Blocked t) answer is g = absurd is

-- ---- the end of a call
after_grown : (p : PendingValue) (after : Afterwards) → IsGrown (after_all p after)
after_grown p Again = tt
after_grown p GiveUp = tt

follows_grown : (e f : EngineValue) (r : ReleaseValue) (after : Afterwards) (v : Worker) → Follows e f r after v →
    IsGrown v
follows_grown e f r after Idle is = tt
follows_grown e f r after (Leaving left still) is = tt
follows_grown e f r after (PutOff p) is = tt
follows_grown e f r after (Refusing p) is = tt
follows_grown e f r after (Trying t) is = same_grown (after_all is.0 after) (Trying t) is.2 (after_grown is.0 after)
follows_grown e f r after (Wanting t wanted) is =
    same_grown (after_all is.0 after) (Wanting t wanted) is.2 (after_grown is.0 after)
follows_grown e f r after (WantingNumbers t left) is =
    same_grown (after_all is.0 after) (WantingNumbers t left) is.2 (after_grown is.0 after)
follows_grown e f r after (Ready d) is = same_grown (after_all is.0 after) (Ready d) is.2 (after_grown is.0 after)
follows_grown e f r after (Blocked t) is = same_grown (after_all is.0 after) (Blocked t) is.2 (after_grown is.0 after)
follows_grown e f r after (Failing t) is = same_grown (after_all is.0 after) (Failing t) is.2 (after_grown is.0 after)

declines_grown : (p : PendingValue) (v : Worker) (answer : Option Answer) → Declines p v answer → IsGrown v
declines_grown p Idle answer is = tt
declines_grown p (Leaving r after) answer is = tt
declines_grown p (PutOff q) answer is = tt
declines_grown p (Refusing q) answer is = tt
declines_grown p (Trying t) answer is = absurd is
declines_grown p (Wanting t wanted) answer is = absurd is
declines_grown p (WantingNumbers t left) answer is = absurd is
declines_grown p (Ready d) answer is = absurd is
declines_grown p (Blocked t) answer is = absurd is
declines_grown p (Failing t) answer is = absurd is

-- ---- a turn
named_grown : (e f : EngineValue) (queue later : List ArrivalValue) (shard : ℕ) (w v : Worker)
    (answer : Option Answer) → IsNamed e f shard w v answer → KeepsQueue e f queue later w v answer →
    IsGrown w → IsGrown v
named_grown e f queue later shard Idle v answer n q g = takes_grown e f queue later v answer q
named_grown e f queue later shard (Trying t) v answer n q g = same_grown (Trying t) v n.1 g
named_grown e f queue later shard (Wanting t wanted) v answer n q g =
    first_grown e t (into_iter_items wanted) v n.1 g
named_grown e f queue later shard (WantingNumbers t left) v answer n q g = gains_grown e shard t left v n.1 g
named_grown e f queue later shard (Ready d) v answer n q g = ends_grown e f d v answer n g
named_grown e f queue later shard (Blocked t) v answer n q g = subst (λ (x : Worker). IsGrown x) (sym n.1) tt
named_grown e f queue later shard (Failing t) v answer n q g = subst (λ (x : Worker). IsGrown x) (sym n.1) tt
named_grown e f queue later shard (Leaving r after) v answer n q g = follows_grown e f r after v n.1
named_grown e f queue later shard (PutOff p) v answer n q g =
    same_grown (Trying (again_of p)) v n.1 (grown_none (again_of p) refl)
named_grown e f queue later shard (Refusing p) v answer n q g = declines_grown p v answer n

pub turn_grown : (e f : EngineValue) (queue later : List ArrivalValue) (shard : ℕ) (w v : Worker)
    (answer : Option Answer) → Turns e f queue later shard w v answer → IsGrown w → IsGrown v
turn_grown e f queue later shard w v answer turns g =
    named_grown e f queue later shard turns.thought v answer turns.step.named turns.queued
    (thinks_grown w turns.thought turns.thinks g)
