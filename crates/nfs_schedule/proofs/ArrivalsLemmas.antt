-- What came in is answered or has no answer yet: each step of a world hands it on.
use Rattle.std.proofs.Common.{◌≡◌, ℕ, zero, suc, ◌-◌, ◌%◌, List, [], ◌∷◌, ◌++◌, append-nil, append_assoc, map}
use Rattle.std.proofs.Common.{option_to_list, set, slice_get, Option, Some, None, Err, refl, sym, ◌∙◌, ap, subst}
use Rattle.std.specs.Prelude.{IsPermutation, filter_map}
use Rattle.std.specs.List.{cons_option}
use Rattle.std.specs.Vec.Iter.{into_iter_items}
use Rattle.std.specs.declared.alloc.AllocError.{AllocError}
use Rattle.std.proofs.lemmas.List.{map-append}
use Rattle.std.proofs.lemmas.List.Sorted.{IsPermutation-append_comm, IsPermutation-append_left}
use Rattle.std.proofs.lemmas.List.Sorted.{IsPermutation-append_right, IsPermutation-cons, IsPermutation-middle}
use Rattle.std.proofs.lemmas.List.Sorted.{IsPermutation-refl, IsPermutation-sym, IsPermutation-to_front}
use Rattle.std.proofs.lemmas.List.Sorted.{IsPermutation-trans}
use Rattle.nfs_machine.specs.Run.{Arrival, Record}
use Rattle.nfs_objects.specs.declared.address.Addr.{Addr}
use Rattle.nfs_objects.specs.declared.modes.Mode.{Mode}
use Rattle.nfs_engine.specs.Arrivals.{ArrivalValue}
use Rattle.nfs_engine.specs.Calls.{FinishedValue, PendingValue, TxnValue, txn_of}
use Rattle.nfs_engine.specs.Engine.{EngineValue, IsAcquired, IsReserved}
use Rattle.nfs_engine.specs.Releases.{ReleaseValue}
use Rattle.nfs_engine.specs.declared.asking.Asked.{Asked}
use Rattle.nfs_engine.specs.declared.release.Then.TheVariants as then
use Rattle.nfs_engine.specs.declared.shard.ReserveError.{ReserveError}
use Rattle.nfs_engine.specs.declared.shard.ReserveError.TheVariants as refusals
use Rattle.nfs_schedule.specs.Accounts.{unanswered}
use Rattle.nfs_schedule.specs.Answers.{IsRefused, IsUnanswered, answered}
use Rattle.nfs_schedule.specs.Events.{Arrives}
use Rattle.nfs_schedule.specs.Stops.{IsStopped, after_received, received_of}
use Rattle.nfs_schedule.specs.Turns.{Acquires, Admits, Declines, EndsTurn, Follows, Gains, IsNamed, KeepsQueue}
use Rattle.nfs_schedule.specs.Turns.{TakesArrival, TakesFirst, after_all}
use Rattle.nfs_schedule.specs.Workers.{Comes, Thinks}
use Rattle.nfs_schedule.specs.Worlds.{StopsWorker, TakesTurn, WorldValue}
use Rattle.nfs_schedule.specs.declared.answer.Answer.{Answer}
use Rattle.nfs_schedule.specs.declared.answer.Answer.TheVariants as answers
use Rattle.nfs_schedule.specs.declared.model.worker.Afterwards.{Afterwards}
use Rattle.nfs_schedule.specs.declared.model.worker.Afterwards.TheVariants.{Again, GiveUp}
use Rattle.nfs_schedule.specs.declared.model.worker.Worker.{Worker}
use Rattle.nfs_schedule.specs.declared.model.worker.Worker.TheVariants.{Idle, Trying, Wanting, WantingNumbers, Ready}
use Rattle.nfs_schedule.specs.declared.model.worker.Worker.TheVariants.{Blocked, Failing}
use Rattle.nfs_schedule.specs.declared.model.worker.Worker.TheVariants.{Leaving, PutOff, Refusing}

-- ---- lists in another order
pub permuted : {X : Type 0} (xs ys : List X) → ys ≡ xs → IsPermutation xs ys
permuted xs ys same = subst (λ l. IsPermutation xs l) (sym same) (IsPermutation-refl xs)

pub option_joined : {X : Type 0} (o : Option X) (xs : List X) → cons_option o xs ≡ option_to_list o ++ xs
option_joined None xs = refl
option_joined (Some x) xs = refl

option_permuted : {X : Type 0} (o : Option X) (xs ys : List X) → IsPermutation xs ys →
    IsPermutation (cons_option o xs) (cons_option o ys)
option_permuted None xs ys p = p
option_permuted (Some x) xs ys p = IsPermutation-cons x xs ys p

option_swapped : {X : Type 0} (a b : Option X) (xs : List X) →
    IsPermutation (cons_option a (cons_option b xs)) (cons_option b (cons_option a xs))
option_swapped None b xs = IsPermutation-refl (cons_option b xs)
option_swapped (Some a) None xs = IsPermutation-refl (a ∷ xs)
option_swapped (Some a) (Some b) xs = IsPermutation-middle (a ∷ []) b xs

-- ---- one worker apart from the others
pub some_same : {X : Type 0} (x y : X) → Some x ≡ Some y → x ≡ y
some_same x y is = cc

-- the calls of these workers, but for the one at a place
abbrev others : List Worker → ℕ → List Arrival
others ws i = filter_map received_of (set ws i Idle)

pub worker_apart : (ws : List Worker) (i : ℕ) (w : Worker) → slice_get ws i ≡ Some w →
    IsPermutation (filter_map received_of ws) (cons_option (received_of w) (others ws i))
worker_apart [] i w is = cc
worker_apart (x ∷ ws) zero w is =
    subst (λ (u : Worker).
    IsPermutation (filter_map received_of (x ∷ ws)) (cons_option (received_of u) (filter_map received_of ws)))
    (some_same x w is) (IsPermutation-refl (filter_map received_of (x ∷ ws)))
worker_apart (x ∷ ws) (suc i) w is =
    IsPermutation-trans _ _ _
    (option_permuted (received_of x) _ _ (worker_apart ws i w is))
    (option_swapped (received_of x) (received_of w) (others ws i))

pub worker_joined : (ws : List Worker) (i : ℕ) (w v : Worker) → slice_get ws i ≡ Some w →
    IsPermutation (filter_map received_of (set ws i v)) (cons_option (received_of v) (others ws i))
worker_joined [] i w v is = cc
worker_joined (x ∷ ws) zero w v is =
    IsPermutation-refl (cons_option (received_of v) (filter_map received_of ws))
worker_joined (x ∷ ws) (suc i) w v is =
    IsPermutation-trans _ _ _
    (option_permuted (received_of x) _ _ (worker_joined ws i w v is))
    (option_swapped (received_of x) (received_of v) (others ws i))

-- ---- what a queue and a worker hand on
-- what waits and what the worker has is what waits later and what it has then, and what is answered
abbrev pub HandsOn : (queue later : List Arrival) (had has : Option Arrival) (given : List Arrival) → Type 0
HandsOn queue later had has given =
    IsPermutation (queue ++ option_to_list had) ((later ++ option_to_list has) ++ given)

-- the other workers' calls stay beside it
pub hands_beside : (queue later : List Arrival) (had has : Option Arrival) (given before after rest : List Arrival) →
    HandsOn queue later had has given → IsPermutation before (cons_option had rest) →
    IsPermutation after (cons_option has rest) → IsPermutation ((queue ++ before) ++ []) ((later ++ after) ++ given)
hands_beside queue later had has given before after rest on old new =
    IsPermutation-trans _ _ _
    (permuted _ _ (sym (append-nil (queue ++ before))))
    (IsPermutation-trans _ _ _
    (IsPermutation-append_right queue _ _ old)
    (IsPermutation-trans _ _ _
    (permuted _ _ (append_assoc queue (option_to_list had) rest
    ∙ ap (λ l. queue ++ l) (sym (option_joined had rest))))
    (IsPermutation-trans _ _ _
    (IsPermutation-append_left rest _ _ on)
    (IsPermutation-trans _ _ _
    (permuted _ _ (sym (append_assoc (later ++ option_to_list has) given rest)))
    (IsPermutation-trans _ _ _
    (IsPermutation-append_right (later ++ option_to_list has) _ _ (IsPermutation-append_comm given rest))
    (IsPermutation-trans _ _ _
    (permuted _ _ (
    ap (λ l. l ++ given) (
    ap (λ l. later ++ l) (option_joined has rest)
    ∙ sym (append_assoc later (option_to_list has) rest)
    )
    ∙ append_assoc (later ++ option_to_list has) rest given))
    (IsPermutation-append_left given _ _
    (IsPermutation-append_right later _ _ (IsPermutation-sym _ _ new)))))))))

-- nothing is taken or answered
hands_still : (queue later : List Arrival) (had has : Option Arrival) (given : List Arrival) → later ≡ queue →
    has ≡ had → given ≡ [] → HandsOn queue later had has given
hands_still queue later had has given same kept none =
    permuted _ _ (
    ap (λ l. (later ++ option_to_list has) ++ l) none
    ∙ append-nil (later ++ option_to_list has)
    ∙ ap (λ l. l ++ option_to_list has) same
    ∙ ap (λ (o : Option Arrival). queue ++ option_to_list o) kept
    )

-- what the worker had is answered
hands_out : (queue later : List Arrival) (had has : Option Arrival) (given : List Arrival) (r : Arrival) →
    later ≡ queue → had ≡ Some r → has ≡ None → given ≡ r ∷ [] → HandsOn queue later had has given
hands_out queue later had has given r same was none told =
    permuted _ _ (
    ap (λ l. (later ++ option_to_list has) ++ l) told
    ∙ ap (λ (o : Option Arrival). (later ++ option_to_list o) ++ r ∷ []) none
    ∙ ap (λ l. l ++ r ∷ []) (append-nil later ∙ same)
    ∙ ap (λ (o : Option Arrival). queue ++ option_to_list o) (sym was)
    )

-- the worker takes the oldest
hands_in : (later : List Arrival) (had has : Option Arrival) (given : List Arrival) (r : Arrival) →
    had ≡ None → has ≡ Some r → given ≡ [] → HandsOn (r ∷ later) later had has given
hands_in later had has given r was is none =
    IsPermutation-trans _ _ _
    (permuted _ _ (sym (ap (λ (o : Option Arrival). (r ∷ later) ++ option_to_list o) was ∙ append-nil (r ∷ later))))
    (IsPermutation-trans _ _ _
    (IsPermutation-sym _ _ (IsPermutation-to_front later r))
    (permuted _ _ (
    ap (λ l. (later ++ option_to_list has) ++ l) none
    ∙ append-nil (later ++ option_to_list has)
    ∙ ap (λ (o : Option Arrival). later ++ option_to_list o) is)))

-- the oldest is answered
hands_back : (later : List Arrival) (had has : Option Arrival) (given : List Arrival) (r : Arrival) →
    had ≡ None → has ≡ None → given ≡ r ∷ [] → HandsOn (r ∷ later) later had has given
hands_back later had has given r was none told =
    IsPermutation-trans _ _ _
    (permuted _ _ (sym (ap (λ (o : Option Arrival). (r ∷ later) ++ option_to_list o) was ∙ append-nil (r ∷ later))))
    (IsPermutation-trans _ _ _
    (IsPermutation-sym _ _ (IsPermutation-to_front later r))
    (permuted _ _ (
    ap (λ l. (later ++ option_to_list has) ++ l) told
    ∙ ap (λ (o : Option Arrival). (later ++ option_to_list o) ++ r ∷ []) none
    ∙ ap (λ l. l ++ r ∷ []) (append-nil later))))

-- ---- thinking
came_same : (t u : TxnValue) → u ≡ t → Some u.received ≡ Some t.received
came_same t u same = ap (λ (x : TxnValue). Some x.received) same

comes_received : (t : TxnValue) (v : Worker) → Comes t v → received_of v ≡ Some t.received
comes_received t (Wanting u wanted) c = came_same t u c.0
comes_received t (WantingNumbers u count) c = came_same t u c.0
comes_received t (Ready d) c = came_same t (txn_of d) c.0
comes_received t (Failing u) c = came_same t u c
comes_received t Idle c = absurd c
comes_received t (Trying u) c = absurd c
comes_received t (Blocked u) c = absurd c
comes_received t (Leaving r after) c = absurd c
comes_received t (PutOff p) c = absurd c
comes_received t (Refusing p) c = absurd c

thinks_received : (w v : Worker) → Thinks w v → received_of v ≡ received_of w
thinks_received (Trying t) v c = comes_received t v c
thinks_received Idle v c = ap received_of c
thinks_received (Wanting t wanted) v c = ap received_of c
thinks_received (WantingNumbers t count) v c = ap received_of c
thinks_received (Ready d) v c = ap received_of c
thinks_received (Blocked t) v c = ap received_of c
thinks_received (Failing t) v c = ap received_of c
thinks_received (Leaving r after) v c = ap received_of c
thinks_received (PutOff p) v c = ap received_of c
thinks_received (Refusing p) v c = ap received_of c

-- ---- answers
refused_answered : (received : Arrival) (asked : Asked) (answer : Answer) → IsRefused received asked answer →
    answered answer ≡ received
refused_answered received asked (answers.Executed receipt) is = absurd is
refused_answered received asked (answers.Repeated kept) is = absurd is
refused_answered received asked (answers.Refused declined) is = is.0
refused_answered received asked (answers.Early faulted) is = absurd is
refused_answered received asked (answers.Unanswered unanswered) is = absurd is

unanswered_answered : (received : Arrival) (answer : Answer) → IsUnanswered received answer →
    answered answer ≡ received
unanswered_answered received (answers.Executed receipt) is = absurd is
unanswered_answered received (answers.Repeated kept) is = absurd is
unanswered_answered received (answers.Refused declined) is = absurd is
unanswered_answered received (answers.Early faulted) is = absurd is
unanswered_answered received (answers.Unanswered unanswered) is = is

-- ---- the oldest arrival
module _ (e f : EngineValue) (a : ArrivalValue) (later : List Arrival) where
  abbrev Admitted : Worker → Option Answer → Type 0
  Admitted next answer =
      HandsOn (a.received ∷ later) later None (received_of next) (map answered (option_to_list answer))

  refused : (answer : Answer) → answered answer ≡ a.received → Admitted Idle (Some answer)
  refused answer is = hands_back later None None (answered answer ∷ []) a.received refl refl (ap (λ r. r ∷ []) is)

  admits_hands : (next : Worker) (answer : Option Answer) → Admits e f a next answer → Admitted next answer
  admits_hands (Trying t) None is = hands_in later None (Some t.received) [] a.received refl
      (ap (λ (x : TxnValue). Some x.received) is.txn) refl
  admits_hands (Trying t) (Some answer) is = absurd is
  admits_hands Idle None is = absurd is
  admits_hands Idle (Some (answers.Executed receipt)) is = absurd is.2
  admits_hands Idle (Some (answers.Repeated kept)) is = refused (answers.Repeated kept) is.0.received
  admits_hands Idle (Some (answers.Refused declined)) is = refused (answers.Refused declined) is.2.0
  admits_hands Idle (Some (answers.Early faulted)) is = refused (answers.Early faulted) is.1
  admits_hands Idle (Some (answers.Unanswered received)) is = refused (answers.Unanswered received) is.1
  admits_hands (Wanting t wanted) answer is = absurd is
  admits_hands (WantingNumbers t count) answer is = absurd is
  admits_hands (Ready d) answer is = absurd is
  admits_hands (Blocked t) answer is = absurd is
  admits_hands (Failing t) answer is = absurd is
  admits_hands (Leaving r after) answer is = absurd is
  admits_hands (PutOff p) answer is = absurd is
  admits_hands (Refusing p) answer is = absurd is

-- ---- the steps of a call
-- where an address could not be had, the call is as it was
pub unacquired : (e : EngineValue) (t u : TxnValue) (a : Addr × Mode) (error : AllocError) →
    IsAcquired e t u a.0 a.1 (Err error) → u ≡ t
unacquired e t u a error is = is.1

acquires_received : (e : EngineValue) (t : TxnValue) (a : Addr × Mode) (left : List (Addr × Mode)) (next : Worker) →
    Acquires e t a left next → received_of next ≡ Some t.received
acquires_received e t a left (Trying u) is = ap (λ (x : TxnValue). Some x.received) is.0
acquires_received e t a left (Wanting u wanted) is = ap (λ (x : TxnValue). Some x.received) is.0
acquires_received e t a left (Blocked u) is = came_same t u is.1.2
acquires_received e t a left (Failing u) is = came_same t u (unacquired e t u a is.0 is.1)
acquires_received e t a left Idle is = absurd is
acquires_received e t a left (WantingNumbers u count) is = absurd is
acquires_received e t a left (Ready d) is = absurd is
acquires_received e t a left (Leaving r after) is = absurd is
acquires_received e t a left (PutOff p) is = absurd is
acquires_received e t a left (Refusing p) is = absurd is

takes_received : (e : EngineValue) (t : TxnValue) (wanted : List (Addr × Mode)) (next : Worker) →
    TakesFirst e t wanted next → received_of next ≡ Some t.received
takes_received e t [] next is = ap received_of is
takes_received e t (a ∷ left) next is = acquires_received e t a left next is

pub unreserved_same : (e : EngineValue) (shard : ℕ) (t u : TxnValue) (error : ReserveError) →
    IsReserved e t u shard (Err error) → u ≡ t
unreserved_same e shard t u refusals.Memory is = is.1
unreserved_same e shard t u refusals.Spent is = is.1

gains_received : (e : EngineValue) (shard : ℕ) (t : TxnValue) (left : ℕ) (next : Worker) → Gains e shard t left next →
    received_of next ≡ Some t.received
gains_received e shard t left (Trying u) is = ap (λ (x : TxnValue). Some x.received) is.0.call
gains_received e shard t left (Failing u) is = came_same t u (unreserved_same e shard t u is.0 is.1)
gains_received e shard t left Idle is = absurd is
gains_received e shard t left (Wanting u wanted) is = absurd is
gains_received e shard t left (WantingNumbers u count) is = ap (λ (x : TxnValue). Some x.received) is.0.call
gains_received e shard t left (Ready d) is = absurd is
gains_received e shard t left (Blocked u) is = absurd is
gains_received e shard t left (Leaving r after) is = absurd is
gains_received e shard t left (PutOff p) is = absurd is
gains_received e shard t left (Refusing p) is = absurd is

after_all_received : (p : PendingValue) (after : Afterwards) → received_of (after_all p after) ≡ Some p.received
after_all_received p Again = refl
after_all_received p GiveUp = refl

-- what a release leads to
module _ (e f : EngineValue) (r : ReleaseValue) (after : Afterwards) where
  leads_received : (next : Worker) (p : PendingValue) → r.after ≡ then.Aborted p → next ≡ after_all p after →
      received_of next ≡ after_received r.after
  leads_received next p is same =
      ap received_of same ∙ after_all_received p after ∙ sym (ap after_received is)

  follows_received : (next : Worker) → Follows e f r after next → received_of next ≡ after_received r.after
  follows_received (Leaving left still) is = ap (λ (x : ReleaseValue). after_received x.after) is.2
  follows_received Idle is = sym (ap after_received is.0)
  follows_received (Trying u) is = leads_received (Trying u) is.0 is.1 is.2
  follows_received (Wanting u wanted) is = leads_received (Wanting u wanted) is.0 is.1 is.2
  follows_received (WantingNumbers u count) is = leads_received (WantingNumbers u count) is.0 is.1 is.2
  follows_received (Ready d) is = leads_received (Ready d) is.0 is.1 is.2
  follows_received (Blocked u) is = leads_received (Blocked u) is.0 is.1 is.2
  follows_received (Failing u) is = leads_received (Failing u) is.0 is.1 is.2
  follows_received (PutOff p) is = leads_received (PutOff p) is.0 is.1 is.2
  follows_received (Refusing p) is = leads_received (Refusing p) is.0 is.1 is.2

-- ---- a step
module _ (e f : EngineValue) (queue later : List ArrivalValue) where
  abbrev queued : List ArrivalValue → List Arrival
  queued arrivals = map (λ (a : ArrivalValue). a.received) arrivals

  abbrev Hands : Worker → Worker → Option Answer → Type 0
  Hands was now answer =
      HandsOn (queued queue) (queued later) (received_of was) (received_of now) (map answered (option_to_list answer))

  no_answer : (answer : Option Answer) → answer ≡ None → map answered (option_to_list answer) ≡ []
  no_answer answer is = ap (λ (o : Option Answer). map answered (option_to_list o)) is

  goes_on : (was now : Worker) (answer : Option Answer) → later ≡ queue → received_of now ≡ received_of was →
      answer ≡ None → Hands was now answer
  goes_on was now answer same kept none =
      hands_still (queued queue) (queued later) (received_of was) (received_of now)
      (map answered (option_to_list answer)) (ap queued same) kept (no_answer answer none)

  goes_out : (was : Worker) (r : Arrival) (now : Worker) (answer : Answer) → later ≡ queue → received_of was ≡ Some r →
      received_of now ≡ None → answered answer ≡ r → Hands was now (Some answer)
  goes_out was r now answer same had none is =
      hands_out (queued queue) (queued later) (received_of was) (received_of now) (answered answer ∷ []) r
      (ap queued same) had none (ap (λ x. x ∷ []) is)

  ends_hands : (done : FinishedValue) (next : Worker) (answer : Option Answer) → later ≡ queue →
      EndsTurn e f done next answer → Hands (Ready done) next answer
  ends_hands done (Leaving r after) (Some (answers.Executed receipt)) same is =
      goes_out (Ready done) done.received (Leaving r after) (answers.Executed receipt) same refl
      (ap after_received is.1.over) (ap (λ (x : Record). x.arrival) is.0.receipt_is.executed)
  ends_hands done (Leaving r after) (Some (answers.Repeated kept)) same is = absurd is
  ends_hands done (Leaving r after) (Some (answers.Refused declined)) same is = absurd is
  ends_hands done (Leaving r after) (Some (answers.Early faulted)) same is = absurd is
  ends_hands done (Leaving r after) (Some (answers.Unanswered received)) same is = absurd is
  ends_hands done (Leaving r after) None same is = absurd is
  ends_hands done (Failing t) None same is =
      goes_on (Ready done) (Failing t) None same (came_same (txn_of done) t is.0) refl
  ends_hands done (Failing t) (Some answer) same is = absurd is
  ends_hands done Idle answer same is = absurd is
  ends_hands done (Trying t) answer same is = absurd is
  ends_hands done (Wanting t wanted) answer same is = absurd is
  ends_hands done (WantingNumbers t count) answer same is = absurd is
  ends_hands done (Ready d) answer same is = absurd is
  ends_hands done (Blocked t) answer same is = absurd is
  ends_hands done (PutOff p) answer same is = absurd is
  ends_hands done (Refusing p) answer same is = absurd is

  declines_hands : (p : PendingValue) (next : Worker) (answer : Option Answer) → later ≡ queue →
      Declines p next answer → Hands (Refusing p) next answer
  declines_hands p Idle (Some answer) same is =
      goes_out (Refusing p) p.received Idle answer same refl refl
      (refused_answered p.received (record { xid = p.xid; ids = p.ctx.ids; call = p.call }) answer is)
  declines_hands p Idle None same is = absurd is
  declines_hands p (Trying t) answer same is = absurd is
  declines_hands p (Wanting t wanted) answer same is = absurd is
  declines_hands p (WantingNumbers t count) answer same is = absurd is
  declines_hands p (Ready d) answer same is = absurd is
  declines_hands p (Blocked t) answer same is = absurd is
  declines_hands p (Failing t) answer same is = absurd is
  declines_hands p (Leaving r after) answer same is = absurd is
  declines_hands p (PutOff q) answer same is = absurd is
  declines_hands p (Refusing q) answer same is = absurd is

-- an idle worker takes the oldest
takes_hands : (e f : EngineValue) (queue later : List ArrivalValue) (next : Worker) (answer : Option Answer) →
    TakesArrival e f queue later next answer → Hands e f queue later Idle next answer
takes_hands e f [] later next answer is =
    goes_on e f [] later Idle next answer is.0 (ap received_of is.2) is.3
takes_hands e f (a ∷ rest) later next answer is =
    subst (λ (l : List ArrivalValue). Hands e f (a ∷ rest) l Idle next answer) (sym is.0)
    (admits_hands e f a (map (λ (b : ArrivalValue). b.received) rest) next answer is.1)

step_hands : (e f : EngineValue) (queue later : List ArrivalValue) (shard : ℕ) (w v : Worker) (answer : Option Answer) →
    IsNamed e f shard w v answer → KeepsQueue e f queue later w v answer → Hands e f queue later w v answer
step_hands e f queue later shard Idle v answer is kept = takes_hands e f queue later v answer kept
step_hands e f queue later shard (Trying t) v answer is kept =
    goes_on e f queue later (Trying t) v answer kept (ap received_of is.1) is.2
step_hands e f queue later shard (Wanting t wanted) v answer is kept =
    goes_on e f queue later (Wanting t wanted) v answer kept (takes_received e t (into_iter_items wanted) v is.1) is.2
step_hands e f queue later shard (WantingNumbers t count) v answer is kept =
    goes_on e f queue later (WantingNumbers t count) v answer kept (gains_received e shard t count v is.1) is.2
step_hands e f queue later shard (Ready d) v answer is kept = ends_hands e f queue later d v answer kept is
step_hands e f queue later shard (Blocked t) v answer is kept =
    goes_on e f queue later (Blocked t) v answer kept (ap received_of is.1) is.2
step_hands e f queue later shard (Failing t) v answer is kept =
    goes_on e f queue later (Failing t) v answer kept (ap received_of is.1) is.2
step_hands e f queue later shard (Leaving r after) v answer is kept =
    goes_on e f queue later (Leaving r after) v answer kept (follows_received e f r after v is.1) is.2
step_hands e f queue later shard (PutOff p) v answer is kept =
    goes_on e f queue later (PutOff p) v answer kept (ap received_of is.1) is.2
step_hands e f queue later shard (Refusing p) v answer is kept = declines_hands e f queue later p v answer kept is

-- ---- worlds
abbrev came_in : ArrivalValue → Arrival
came_in a = a.received

-- what had no answer, and what came, has none yet or is answered
abbrev pub Passes : WorldValue → WorldValue → (came given : List Arrival) → Type 0
Passes old new came given = IsPermutation (unanswered old ++ came) (unanswered new ++ given)

pub same_passes : (old new : WorldValue) → new.queue ≡ old.queue → new.workers ≡ old.workers → Passes old new [] []
same_passes old new queue workers =
    permuted _ _ (
    ap (λ (l : List ArrivalValue). (map came_in l ++ filter_map received_of new.workers) ++ []) queue
    ∙ ap (λ (ws : List Worker). (map came_in old.queue ++ filter_map received_of ws) ++ []) workers
    )

-- what waits in the queue, and what the workers have
abbrev waiting : WorldValue → List Arrival
waiting w = map (λ (a : ArrivalValue). a.received) w.queue

abbrev busy : WorldValue → List Arrival
busy w = filter_map received_of w.workers

-- what an event brings waits behind the others
pub arrives_passes : (old new : WorldValue) (came : Arrival) → Arrives old new came →
    Passes old new (came ∷ []) []
arrives_passes old new came a =
    IsPermutation-trans _ _ _
    (permuted _ _ (sym (append_assoc (waiting old) (busy old) (came ∷ []))))
    (IsPermutation-trans _ _ _
    (IsPermutation-append_right (waiting old) _ _ (IsPermutation-append_comm (busy old) (came ∷ [])))
    (permuted _ _ (
    append-nil (unanswered new)
    ∙ ap unanswered a.rest
    ∙ ap (λ l. l ++ busy old) (map-append (λ (x : ArrivalValue). x.received) old.queue (a.arrival ∷ []))
    ∙ ap (λ r. (waiting old ++ r ∷ []) ++ busy old) a.received
    ∙ append_assoc (waiting old) (came ∷ []) (busy old))))

-- a worker hands on, and the others' calls stay
module _ (old new : WorldValue) (i : ℕ) (was now : Worker) (answer : Option Answer)
    (there : slice_get old.workers i ≡ Some was)
    (workers : new.workers ≡ set old.workers i now)
    (on : Hands old.engine new.engine old.queue new.queue was now answer) where
  pub worker_passes : Passes old new [] (map answered (option_to_list answer))
  worker_passes =
      hands_beside (map (λ (a : ArrivalValue). a.received) old.queue) (map (λ (a : ArrivalValue). a.received) new.queue)
      (received_of was) (received_of now) (map answered (option_to_list answer)) (filter_map received_of old.workers)
      (filter_map received_of new.workers) (others old.workers i) on (worker_apart old.workers i was there)
      (subst (λ (ws : List Worker).
      IsPermutation (filter_map received_of ws) (cons_option (received_of now) (others old.workers i))) (sym workers)
      (worker_joined old.workers i was now there))

pub turn_passes : (old new : WorldValue) (worker : ℕ) (answer : Option Answer) → TakesTurn old new worker answer →
    Passes old new [] (map answered (option_to_list answer))
turn_passes old new worker answer t =
    let step = step_hands old.engine new.engine old.queue new.queue (worker % 16) t.turns.thought t.now answer
    t.turns.step.named t.turns.queued in
    worker_passes old new (worker - 1) t.was t.now answer t.there (ap (λ (w : WorldValue). w.workers) t.rest)
    (subst (λ (o : Option Arrival).
    HandsOn (map (λ (a : ArrivalValue). a.received) old.queue) (map (λ (a : ArrivalValue). a.received) new.queue) o
    (received_of t.now) (map answered (option_to_list answer))) (thinks_received t.was t.turns.thought t.turns.thinks)
    step)

stopped_hands : (e f : EngineValue) (queue later : List ArrivalValue) (w : Worker) (answer : Option Answer) →
    later ≡ queue → IsStopped w answer → Hands e f queue later w Idle answer
stopped_hands e f queue later w None same is = goes_on e f queue later w Idle None same (sym is) refl
stopped_hands e f queue later w (Some answer) same is =
    goes_out e f queue later w is.0 Idle answer same is.1 refl (unanswered_answered is.0 answer is.2)

pub stop_passes : (old new : WorldValue) (worker : ℕ) (answer : Option Answer) → StopsWorker old new worker answer →
    Passes old new [] (map answered (option_to_list answer))
stop_passes old new worker answer s =
    worker_passes old new (worker - 1) s.was Idle answer s.there (ap (λ (w : WorldValue). w.workers) s.rest)
    (stopped_hands old.engine new.engine old.queue new.queue s.was answer (ap (λ (w : WorldValue). w.queue) s.rest)
    s.stop.stopped)

-- ---- one step after the other
pub passes_both : (a b c : WorldValue) (first then one two : List Arrival) → Passes a b first one →
    Passes b c then two → Passes a c (first ++ then) (one ++ two)
passes_both a b c first then one two p q =
    IsPermutation-trans _ _ _
    (permuted _ _ (append_assoc (unanswered a) first then))
    (IsPermutation-trans _ _ _
    (IsPermutation-append_left then _ _ p)
    (IsPermutation-trans _ _ _
    (permuted _ _ (sym (append_assoc (unanswered b) one then)))
    (IsPermutation-trans _ _ _
    (IsPermutation-append_right (unanswered b) _ _ (IsPermutation-append_comm one then))
    (IsPermutation-trans _ _ _
    (permuted _ _ (append_assoc (unanswered b) then one))
    (IsPermutation-trans _ _ _
    (IsPermutation-append_left one _ _ q)
    (IsPermutation-trans _ _ _
    (permuted _ _ (sym (append_assoc (unanswered c) two one)))
    (IsPermutation-append_right (unanswered c) _ _ (IsPermutation-append_comm two one))))))))
