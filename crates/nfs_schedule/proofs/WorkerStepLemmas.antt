-- Each step of a worker, by what the engine does.
use Rattle.std.proofs.Common.{◌≡◌, ℕ, ◌+◌, ◌<◌, ◌≤◌, true, false, List, [], ◌∷◌, ◌++◌, append-nil, append_assoc}
use Rattle.std.proofs.Common.{Option, Some, None, Ok, Err, refl, sym, ◌∙◌, ap, subst, arith}
use Rattle.std.specs.Vec.Iter.{into_iter_items}
use Rattle.std.specs.declared.alloc.AllocError.{AllocError}
use Rattle.std.specs.declared.alloc.Global.{Global}
use Rattle.std.specs.declared.vec.IntoIter.{IntoIter}
use Rattle.nfs_machine.specs.Run.{Arrival, bytes_in, host_in}
use Rattle.nfs_machine.specs.declared.calls.Call.{Call}
use Rattle.nfs_machine.specs.declared.context.Ctx.{Ctx}
use Rattle.nfs_objects.proofs.SeenLemmas.{all-map}
use Rattle.nfs_machine.proofs.ModesLemmas.{all-joined}
use Rattle.nfs_objects.proofs.ModesSuitLemmas.{suits-wider}
use Rattle.nfs_objects.specs.Asks.{Asks, MayAsk}
use Rattle.nfs_objects.specs.Calls.{named_by}
use Rattle.nfs_objects.specs.Fits.{vacant}
use Rattle.nfs_objects.specs.Modes.{Suits, covers, held_mode, modes_of}
use Rattle.nfs_objects.specs.Rooms.{with_seen, with_number}
use Rattle.nfs_objects.specs.Values.{Seen, ViewValue, is_addr}
use Rattle.nfs_objects.specs.declared.address.Addr.{Addr}
use Rattle.nfs_objects.specs.declared.modes.Mode.{Mode}
use Rattle.nfs_objects.specs.declared.modes.Mode.TheVariants.{Shared, Exclusive}
use Rattle.nfs_objects.specs.declared.object.Object.{Object}
use Rattle.nfs_objects.specs.declared.view.Reserved.{Reserved}
use Rattle.nfs_replies.specs.Kept.ReplyEvent.{Repeated}
use Rattle.nfs_replies.specs.Replies.{IsAfter}
use Rattle.nfs_engine.proofs.BuiltCallLemmas.{arrival-built}
use Rattle.nfs_engine.proofs.LetGoEntryLemmas.{seen_beside}
use Rattle.nfs_engine.specs.Arrivals.{ArrivalValue, incoming_value}
use Rattle.nfs_engine.specs.Book.{BeginsCall, BookValue, GivesUp, Repeats, StillRuns, store_in}
use Rattle.nfs_engine.specs.Built.{IsBuilt}
use Rattle.nfs_engine.specs.Calls.{FinishedValue, IsCalled, PendingValue, TxnValue, txn_of}
use Rattle.nfs_engine.specs.Engine.{EngineValue, IsAcquired, IsLeaving, IsReleased, IsReserved, KeepsAll, KeepsOthers}
use Rattle.nfs_engine.specs.Engine.{LeadsTo, Lives, Releases, Waits, held_among, release_of}
use Rattle.nfs_engine.specs.Releases.{ReleaseValue}
use Rattle.nfs_engine.specs.Repeats.{RepeatValue, kept_for, origin_in, origin_of}
use Rattle.nfs_engine.specs.Running.{without_call}
use Rattle.nfs_engine.specs.declared.admission.Refused as given
use Rattle.nfs_engine.specs.declared.asking.Asked.{Asked}
use Rattle.nfs_engine.specs.declared.journal.Receipt.{Receipt}
use Rattle.nfs_engine.specs.declared.release.Next.TheVariants as next
use Rattle.nfs_engine.specs.declared.release.Then.{Then}
use Rattle.nfs_engine.specs.declared.shard.ReserveError.{ReserveError}
use Rattle.nfs_engine.specs.declared.taking.Got.TheVariants as got
use Rattle.nfs_schedule.proofs.ArrivalsLemmas.{unacquired, unreserved_same}
use Rattle.nfs_schedule.proofs.OtherCallsLemmas.{all_both}
use Rattle.nfs_schedule.proofs.OtherWorkersLemmas.{places_same, places_without, rest_all, rest_begun, rest_still}
use Rattle.nfs_schedule.proofs.OtherWorkersLemmas.{rest_with, rest_without}
use Rattle.nfs_schedule.specs.Answers.{IsRefused, IsUnanswered}
use Rattle.nfs_schedule.specs.Grown.{AsksFor, IsGrown}
use Rattle.nfs_schedule.specs.Turns.{Admits, Declines, Effect, Executes, IsNamed, IsTurnOf, KeepsBook, KeepsStore}
use Rattle.nfs_schedule.specs.Turns.{Recalls, TakesFirst, after_all, numbers_taken}
use Rattle.nfs_schedule.specs.Workers.{Comes, IsSuited, MayTake, MayThink, Thinks, Wants, WorkerLives, after_key}
use Rattle.nfs_schedule.specs.Workers.{worker_id, worker_key}
use Rattle.nfs_schedule.specs.declared.answer.Answer.{Answer}
use Rattle.nfs_schedule.specs.declared.answer.Answer.TheVariants as answers
use Rattle.nfs_schedule.specs.declared.model.worker.Afterwards.{Afterwards}
use Rattle.nfs_schedule.specs.declared.model.worker.Afterwards.TheVariants.{Again, GiveUp}
use Rattle.nfs_schedule.specs.declared.model.worker.Worker.{Worker}
use Rattle.nfs_schedule.specs.declared.model.worker.Worker.TheVariants.{Idle, Trying, Wanting, WantingNumbers, Ready}
use Rattle.nfs_schedule.specs.declared.model.worker.Worker.TheVariants.{Blocked}
use Rattle.nfs_schedule.specs.declared.model.worker.Worker.TheVariants.{Failing}
use Rattle.nfs_schedule.specs.declared.model.worker.Worker.TheVariants.{Leaving, PutOff, Refusing}

-- ---- how what is read is held
covers_itself : (m : Mode) → covers m m ≡ true
covers_itself Shared = refl
covers_itself Exclusive = refl

-- what an attempt asks for may be taken
pub wants_asked : (call : Call) (view : ViewValue) (asked : List (Addr × Mode)) → Suits (modes_of call) view →
    Asks (modes_of call) (named_by call view) view asked → Wants call view asked
wants_asked call view asked suited asks = record {
  asking = view;
  suited = suited;
  taken = [];
  strong = tt;
  grew = ap (λ es. record view { entries = es }) (sym (append-nil view.entries));
  once = asks.once;
  each =
      all-map (MayAsk (modes_of call) (named_by call view) view) (MayTake call view view) (λ a may. record {
        unseen = may.unseen;
        strong = subst (λ m. covers a.1 m ≡ true) may.mode (covers_itself a.1);
      }) asked asks.each;
}

-- what is taken as it was asked for suits
wants_suits : (call : Call) (view : ViewValue) (wanted : List (Addr × Mode)) → Wants call view wanted →
    Suits (modes_of call) view
wants_suits call view wanted w = subst (λ (v : ViewValue). Suits (modes_of call) v) (sym w.grew)
    (suits-wider w.asking w.taken w.asking.reserved (modes_of call) w.suited w.strong)

module _ (t u : TxnValue) (a : Addr × Mode) (others : List (Addr × Mode)) (o : Option Object)
    (is : u ≡ record t { view = with_seen t.view (record { address = a.0; mode = a.1; object = o }) })
    (wants : Wants t.call t.view (a ∷ others)) where
  abbrev entry : Seen
  entry = record { address = a.0; mode = a.1; object = o }

  abbrev taken : TxnValue
  taken = record t { view = with_seen t.view entry }

  wants_less : Wants u.call u.view others
  wants_less = subst (λ (x : TxnValue). Wants x.call x.view others) (sym is) (record {
    asking = wants.asking;
    suited = wants.suited;
    taken = wants.taken ++ entry ∷ [];
    strong =
        all-joined (λ (e : Seen). covers e.mode (held_mode (modes_of t.call) wants.asking e.address) ≡ true)
        wants.taken (entry ∷ []) wants.strong (wants.each.0.strong, tt);
    grew =
        ap (λ (v : ViewValue). with_seen v entry) wants.grew
        ∙ ap (λ es. record wants.asking { entries = es }) (append_assoc wants.asking.entries wants.taken (entry ∷ []));
    once = wants.once.1;
    each =
        all_both (λ (b : Addr × Mode). is_addr a.0 b.0 ≡ false) (MayTake t.call wants.asking t.view)
        (MayTake t.call wants.asking taken.view) others (λ b other may. record {
          unseen = seen_beside t.view.entries entry b.0 other ∙ may.unseen;
          strong = may.strong;
        }) wants.once.0 wants.each.1;
  })

  suited_more : IsSuited u
  suited_more = wants_suits u.call u.view others wants_less

suited_number : (t u : TxnValue) (r : Reserved) → u ≡ record t { view = with_number t.view r } → IsSuited t → IsSuited u
suited_number t u r is suited = subst (λ (x : TxnValue). IsSuited x) (sym is)
    (suits-wider t.view (vacant r ∷ []) (t.view.reserved ++ r ∷ []) (modes_of t.call) suited (refl, tt))

-- ---- steps of a call
pub keeps_book : (e f : EngineValue) → f.book ≡ e.book → KeepsStore e f
keeps_book e f same = subst (λ (b : BookValue). b ≡ record e.book { living = b.living; next_id = b.next_id })
    (sym same) refl

pub keeps_living : (e f : EngineValue) → f.book ≡ e.book → KeepsBook e f
keeps_living e f same = subst (λ (b : BookValue). b ≡ record e.book { living = b.living }) (sym same) refl

-- a call that there was already takes no number, and neither does none
had_taken : (old new : Option ℕ) (id : ℕ) → old ≡ Some id → numbers_taken old new ≡ 0
had_taken old new id is = subst (λ (o : Option ℕ). numbers_taken o new ≡ 0) (sym is) refl

same_taken : (old new : Option ℕ) → new ≡ old → numbers_taken old new ≡ 0
same_taken None new is = subst (λ (o : Option ℕ). numbers_taken None o ≡ 0) (sym is) refl
same_taken (Some id) new is = refl

ids_kept : (e f : EngineValue) (w v : Worker) → f.book.next_id ≡ e.book.next_id →
    numbers_taken (worker_id w) (worker_id v) ≡ 0 →
    f.book.next_id ≡ e.book.next_id + numbers_taken (worker_id w) (worker_id v)
ids_kept e f w v same none = omega (arith, same, none)

-- the call goes on, and the book is as it was
pub goes_on : (id : ℕ) (e f : EngineValue) (shard : ℕ) (w v : Worker) → KeepsOthers id e f → worker_id w ≡ Some id →
    worker_id v ≡ Some id → worker_key v ≡ worker_key w → f.book ≡ e.book → WorkerLives f v →
    IsNamed e f shard w v None → IsTurnOf e f shard w v None
goes_on id e f shard w v k own still keys same lives named = record {
  lives = lives;
  rest = rest_with id e f w v k own still (places_same e f w v (ap (λ (b : BookValue). b.living) same) keys);
  effect = keeps_book e f same;
  ids = ids_kept e f w v (ap (λ (b : BookValue). b.next_id) same) (had_taken (worker_id w) (worker_id v) id own);
  named = named;
}

-- the engine is as it was
pub stands_still : (e f : EngineValue) (shard : ℕ) (w v : Worker) → f ≡ e → worker_id v ≡ worker_id w →
    worker_key v ≡ worker_key w → WorkerLives e v → IsNamed e f shard w v None → IsTurnOf e f shard w v None
stands_still e f shard w v same ids keys lives named = record {
  lives = subst (λ (x : EngineValue). WorkerLives x v) (sym same) lives;
  rest = rest_still e f w v same ids keys;
  effect = keeps_book e f (ap (λ (x : EngineValue). x.book) same);
  ids = ids_kept e f w v (ap (λ (x : EngineValue). x.book.next_id) same) (same_taken (worker_id w) (worker_id v) ids);
  named = named;
}

-- ---- an address
module _ (e f : EngineValue) (t u : TxnValue) (a : Addr × Mode) (wanted left : IntoIter (Addr × Mode) Global)
    (items : into_iter_items wanted ≡ a ∷ into_iter_items left) (lives : WorkerLives e (Wanting t wanted))
    (later : Lives f u) (k : KeepsOthers t.id e f) (same : f.book ≡ e.book) where
  wants_first : Wants t.call t.view (a ∷ into_iter_items left)
  wants_first = subst (λ (ws : List (Addr × Mode)). Wants t.call t.view ws) items lives.2

  leads : (v : Worker) → TakesFirst e t (a ∷ into_iter_items left) v → TakesFirst e t (into_iter_items wanted) v
  leads v first = subst (λ (ws : List (Addr × Mode)). TakesFirst e t ws v) (sym items) first

  module _ (is : IsAcquired {E = AllocError} e t u a.0 a.1 (Ok got.Yes)) where
    pub acquired_last : into_iter_items left ≡ [] → IsTurnOf e f 0 (Wanting t wanted) (Trying u) None
    acquired_last none =
        goes_on t.id e f 0 (Wanting t wanted) (Trying u) k refl (ap (λ (x : TxnValue). Some x.id) is)
        (ap (λ (x : TxnValue). Some x.key) is) same
        (later, suited_more t u a (into_iter_items left) ((store_in e.book).at a.0) is wants_first)
        (same, leads (Trying u) (is, none), refl)

    pub acquired_more : IsTurnOf e f 0 (Wanting t wanted) (Wanting u left) None
    acquired_more =
        goes_on t.id e f 0 (Wanting t wanted) (Wanting u left) k refl (ap (λ (x : TxnValue). Some x.id) is)
        (ap (λ (x : TxnValue). Some x.key) is) same (
          later,
          suited_more t u a (into_iter_items left) ((store_in e.book).at a.0) is wants_first,
          wants_less t u a (into_iter_items left) ((store_in e.book).at a.0) is wants_first,
        )
        (same, leads (Wanting u left) (is, refl), refl)

  pub taken_by : (h : ℕ) → IsAcquired {E = AllocError} e t u a.0 a.1 (Ok (got.Taken h)) →
      IsTurnOf e f 0 (Wanting t wanted) (Blocked u) None
  taken_by h is =
      goes_on t.id e f 0 (Wanting t wanted) (Blocked u) k refl (ap (λ (x : TxnValue). Some x.id) is.2)
      (ap (λ (x : TxnValue). Some x.key) is.2) same later (same, leads (Blocked u) (h, is), refl)

  pub acquire_fails : (error : AllocError) → IsAcquired e t u a.0 a.1 (Err error) →
      IsTurnOf e f 0 (Wanting t wanted) (Failing u) None
  acquire_fails error is =
      let still = unacquired e t u a error is in
      goes_on t.id e f 0 (Wanting t wanted) (Failing u) k refl (ap (λ (x : TxnValue). Some x.id) still)
      (ap (λ (x : TxnValue). Some x.key) still) same later (same, leads (Failing u) (error, is), refl)

-- ---- a number
module _ (e f : EngineValue) (shard : ℕ) (t u : TxnValue) (left : ℕ) (lives : WorkerLives e (WantingNumbers t left))
    (later : Lives f u) (k : KeepsOthers t.id e f) (same : f.book ≡ e.book) where
  pub reserved : left ≤ 1 → IsReserved e t u shard (Ok tt) → IsTurnOf e f shard (WantingNumbers t left) (Trying u) None
  reserved last is =
      goes_on t.id e f shard (WantingNumbers t left) (Trying u) k refl (ap (λ (x : TxnValue). Some x.id) is.call)
      (ap (λ (x : TxnValue). Some x.key) is.call) same (later, suited_number t u is.reserved is.call lives.1)
      (same, (is, last), refl)

  -- others are wanted still
  pub reserved_one : (others : ℕ) → 1 < left → left ≡ others + 1 → IsReserved e t u shard (Ok tt) →
      IsTurnOf e f shard (WantingNumbers t left) (WantingNumbers u others) None
  reserved_one others more count is =
      goes_on t.id e f shard (WantingNumbers t left) (WantingNumbers u others) k refl
      (ap (λ (x : TxnValue). Some x.id) is.call)
      (ap (λ (x : TxnValue). Some x.key) is.call) same (later, suited_number t u is.reserved is.call lives.1)
      (same, (is, more, count), refl)

  pub reserve_fails : (error : ReserveError) → IsReserved e t u shard (Err error) →
      IsTurnOf e f shard (WantingNumbers t left) (Failing u) None
  reserve_fails error is =
      let still = unreserved_same e shard t u error is in
      goes_on t.id e f shard (WantingNumbers t left) (Failing u) k refl (ap (λ (x : TxnValue). Some x.id) still)
      (ap (λ (x : TxnValue). Some x.key) still) same later (same, (error, is), refl)

-- ---- a commit
pub committed : (e f : EngineValue) (done : FinishedValue) (r : ReleaseValue) (receipt : Receipt) (after : Afterwards) →
    Lives e (txn_of done) → KeepsOthers done.id e f → IsLeaving f r → IsReleased done r → Executes e f done receipt →
    IsCalled done.received done.xid done.done.call done.done.ctx →
    IsTurnOf e f 0 (Ready done) (Leaving r after) (Some (answers.Executed receipt))
committed e f done r receipt after lives k leaving released executes called = record {
  lives = leaving;
  rest =
      rest_with done.id e f (Ready done) (Leaving r after) k refl (ap Some released.id)
      (places_without e f (Ready done) (Leaving r after) done.key done.id (origin_of done.received done.done.call)
      lives.running refl
      (ap (λ (b : BookValue). b.living) executes.commits.rest));
  effect = (done, executes, called);
  ids = ids_kept e f (Ready done) (Leaving r after) (ap (λ (b : BookValue). b.next_id) executes.commits.rest) refl;
  named = (executes, released);
}

-- ---- a release
module _ (e f : EngineValue) (r : ReleaseValue) (after : Afterwards) (k : KeepsOthers r.id e f)
    (same : f.book ≡ e.book) where
  pub released_all : Releases e f r next.Ended → IsTurnOf e f 0 (Leaving r after) Idle None
  released_all is = record {
    lives = tt;
    rest =
        rest_without r.id e f (Leaving r after) Idle k refl refl is.1
        (places_same e f (Leaving r after) Idle (ap (λ (b : BookValue). b.living) same)
        (sym (ap after_key is.0)));
    effect = keeps_book e f same;
    ids = ids_kept e f (Leaving r after) Idle (ap (λ (b : BookValue). b.next_id) same) refl;
    named = (same, (is.0, is.2, is.3), refl);
  }

  pub released_more : (left : ReleaseValue) → Releases e f r (next.More left) →
      IsTurnOf e f 0 (Leaving r after) (Leaving left after) None
  released_more left is =
      goes_on r.id e f 0 (Leaving r after) (Leaving left after) k refl (ap (λ (x : ReleaseValue). Some x.id) is.3)
      (ap (λ (x : ReleaseValue). after_key x.after) is.3) same is.0
      (same, (is.1, is.2, is.3, refl), refl)

  module _ (leaving : IsLeaving e r) (p : PendingValue) (is : Releases e f r (next.Aborted p)) where
    own : p.id ≡ r.id
    own = (subst (λ (x : Then). LeadsTo e r.id x) is.0 leaving.after).0

    pub released_to : IsTurnOf e f 0 (Leaving r after) (after_all p after) None
    released_to = elim after as (λ (x : Afterwards). IsTurnOf e f 0 (Leaving r x) (after_all p x) None) [
      | Again ↦
          goes_on r.id e f 0 (Leaving r Again) (PutOff p) k refl (ap Some own) (sym (ap after_key is.0)) same is.1
          (same, (p, is.0, refl, is.2, is.3), refl)
      | GiveUp ↦
          goes_on r.id e f 0 (Leaving r GiveUp) (Refusing p) k refl (ap Some own) (sym (ap after_key is.0)) same is.1
          (same, (p, is.0, refl, is.2, is.3), refl)
    ]

-- ---- the beginning and the end of a call
pub not_executed : (e f : EngineValue) (received : Arrival) (asked : Asked) (answer : Answer) →
    IsRefused received asked answer → KeepsStore e f → Effect e f (Some answer)
not_executed e f received asked (answers.Executed receipt) is keeps = absurd is
not_executed e f received asked (answers.Repeated kept) is keeps = absurd is
not_executed e f received asked (answers.Refused declined) is keeps = keeps
not_executed e f received asked (answers.Early faulted) is keeps = keeps
not_executed e f received asked (answers.Unanswered unanswered) is keeps = keeps

pub begun : (e f : EngineValue) (a : ArrivalValue) (t : TxnValue) → BeginsCall e.book f.book a t → Lives f t →
    KeepsOthers t.id e f → f.shards ≡ e.shards → IsTurnOf e f 0 Idle (Trying t) None
begun e f a t b lives k shards = record {
  lives = (lives, subst (λ (x : TxnValue). IsSuited x) (sym b.txn) tt);
  rest = rest_begun e f (Trying t) t.id t.key (origin_of a.received b.asked.call) k (ap (λ (x : TxnValue). x.id) b.txn)
      refl refl b.joins shards;
  effect =
      b.rest ∙ ap (λ n. record e.book { living = f.book.living; next_id = n })
      (sym (ap (λ (x : BookValue). x.next_id) b.rest));
  ids = ap (λ (x : BookValue). x.next_id) b.rest;
  named = tt;
}

-- nothing is changed, and the worker stays idle
pub answers_idle : (e f : EngineValue) (answer : Answer) → f ≡ e → Effect e f (Some answer) →
    IsTurnOf e f 0 Idle Idle (Some answer)
answers_idle e f answer same effect = record {
  lives = tt;
  rest = rest_still e f Idle Idle same refl refl;
  effect = effect;
  ids = ids_kept e f Idle Idle (ap (λ (x : EngineValue). x.book.next_id) same) refl;
  named = tt;
}

-- ---- a record that came before
pub recalls : (e f : EngineValue) (a : ArrivalValue) (kept : RepeatValue) → Repeats e.book f.book a kept →
    Recalls e f kept
recalls e f a kept r = record {
  reply = subst (λ (x : Arrival). kept_for e.book.replies (origin_in x) ≡ Some kept.reply) (sym r.received) r.reply;
  front =
      subst (λ (x : Arrival). IsAfter (Repeated (host_in x) (bytes_in x)) e.book.replies f.book.replies)
      (sym r.received) r.front;
  rest = r.rest;
}

pub repeated : (e f : EngineValue) (a : ArrivalValue) (kept : RepeatValue) → Repeats e.book f.book a kept →
    KeepsAll e f → f.shards ≡ e.shards → IsTurnOf e f 0 Idle Idle (Some (answers.Repeated kept))
repeated e f a kept r all shards = record {
  lives = tt;
  rest = rest_all e f all shards (ap (λ (b : BookValue). b.living) r.rest);
  effect = recalls e f a kept r;
  ids = ids_kept e f Idle Idle (ap (λ (b : BookValue). b.next_id) r.rest) refl;
  named = tt;
}

-- its call is in progress, and nothing is changed
effect_unanswered : (e f : EngineValue) (received : Arrival) (answer : Answer) → f ≡ e → IsUnanswered received answer →
    Effect e f (Some answer)
effect_unanswered e f received (answers.Executed receipt) same is = absurd is
effect_unanswered e f received (answers.Repeated kept) same is = absurd is
effect_unanswered e f received (answers.Refused declined) same is = absurd is
effect_unanswered e f received (answers.Early faulted) same is = absurd is
effect_unanswered e f received (answers.Unanswered unanswered) same is =
    keeps_book e f (ap (λ (x : EngineValue). x.book) same)

pub left_alone : (e f : EngineValue) (received : Arrival) (answer : Answer) → f ≡ e → IsUnanswered received answer →
    IsTurnOf e f 0 Idle Idle (Some answer)
left_alone e f received answer same is = answers_idle e f answer same (effect_unanswered e f received answer same is)

admits_left : (e f : EngineValue) (a back : ArrivalValue) (answer : Answer) → StillRuns e.book f.book a back → f ≡ e →
    IsUnanswered a.received answer → Admits e f a Idle (Some answer)
admits_left e f a back (answers.Executed receipt) runs same is = absurd is
admits_left e f a back (answers.Repeated kept) runs same is = absurd is
admits_left e f a back (answers.Refused declined) runs same is = absurd is
admits_left e f a back (answers.Early faulted) runs same is = absurd is
admits_left e f a back (answers.Unanswered unanswered) runs same is =
    (subst (λ (x : ArrivalValue). StillRuns e.book f.book a x) runs.handed runs, is, same)

-- what came while its call is in progress is handed back, and has no reply
pub left_unanswered : (e f : EngineValue) (a back : ArrivalValue) (answer : Answer) → StillRuns e.book f.book a back →
    f ≡ e → IsUnanswered back.received answer → Admits e f a Idle (Some answer)
left_unanswered e f a back answer runs same is = admits_left e f a back answer runs same
    (subst (λ (x : ArrivalValue). IsUnanswered x.received answer) runs.handed is)

pub given_up : (e f : EngineValue) (p : PendingValue) (refused : given.Refused) (answer : Answer) → Waits e p →
    GivesUp e.book f.book p refused → KeepsOthers p.id e f → f.shards ≡ e.shards →
    IsRefused (incoming_value refused.received) refused.asked answer →
    IsTurnOf e f 0 (Refusing p) Idle (Some answer)
given_up e f p refused answer waits g k shards is =
    let keeps : KeepsStore e f =
    g.rest ∙ ap (λ n. record e.book { living = without_call e.book.living p.key p.id; next_id = n })
    (sym (ap (λ (x : BookValue). x.next_id) g.rest))
    ∙ ap (λ l. record e.book { living = l; next_id = f.book.next_id })
    (sym (ap (λ (x : BookValue). x.living) g.rest)) in
    record {
      lives = tt;
      rest =
          rest_without p.id e f (Refusing p) Idle k refl refl
          (λ a. ap (λ s. held_among s a p.id) shards ∙ waits.holds.exactly a)
          (places_without e f (Refusing p) Idle p.key p.id (origin_of p.received p.call) waits.running refl
          (ap (λ (x : BookValue). x.living) g.rest));
      effect = not_executed e f (incoming_value refused.received) refused.asked answer is keeps;
      ids = ids_kept e f (Refusing p) Idle (ap (λ (x : BookValue). x.next_id) g.rest) refl;
      named = declined answer (subst (λ (x : Arrival). IsRefused x refused.asked answer) g.received is);
    }
  where
    declined : (x : Answer) → IsRefused p.received refused.asked x → Declines p Idle (Some x)
    declined x r = subst (λ (y : Asked). IsRefused p.received y x) g.asked r

-- ---- thinking
-- what lived lives on, in every engine, and it is the same call
pub record ThinksOn (e : EngineValue) (w v : Worker) : Type 0 where
  pub lives : WorkerLives e v
  pub ids : worker_id v ≡ worker_id w
  pub keys : worker_key v ≡ worker_key w

asks_all : (t : TxnValue) (wanted : List (Addr × Mode)) → AsksFor t wanted →
    Asks (modes_of t.call) (named_by t.call t.view) t.view wanted
asks_all t wanted asks =
    subst (λ (l : List (Addr × Mode)). Asks (modes_of t.call) (named_by t.call t.view) t.view l) asks.whole
    asks.attempts

comes_on : (e : EngineValue) (t : TxnValue) (v : Worker) → Comes t v → WorkerLives e (Trying t) →
    ThinksOn e (Trying t) v
comes_on e t (Wanting u wanted) c lives =
    subst (λ (x : TxnValue). ThinksOn e (Trying t) (Wanting x wanted)) (sym c.0) (record {
      lives = (
        lives.0,
        lives.1,
        wants_asked t.call t.view (into_iter_items wanted) lives.1
            (asks_all t (into_iter_items wanted) c.1),
      );
      ids = refl;
      keys = refl;
    })
comes_on e t (WantingNumbers u left) c lives = subst (λ (x : TxnValue). ThinksOn e (Trying t) (WantingNumbers x left))
    (sym c.0)
    (record { lives = lives; ids = refl; keys = refl })
comes_on e t (Ready d) c lives = record {
  lives = subst (λ (x : TxnValue). Lives e x) (sym c.0) lives.0;
  ids = ap (λ (x : TxnValue). Some x.id) c.0;
  keys = ap (λ (x : TxnValue). Some x.key) c.0;
}
comes_on e t (Failing u) c lives = subst (λ (x : TxnValue). ThinksOn e (Trying t) (Failing x)) (sym c)
    (record { lives = lives.0; ids = refl; keys = refl })
comes_on e t Idle c lives = absurd c
comes_on e t (Trying u) c lives = absurd c
comes_on e t (Blocked u) c lives = absurd c
comes_on e t (Leaving r after) c lives = absurd c
comes_on e t (PutOff p) c lives = absurd c
comes_on e t (Refusing p) c lives = absurd c

same_on : (e : EngineValue) (w v : Worker) → v ≡ w → WorkerLives e w → ThinksOn e w v
same_on e w v same lives = subst (λ (x : Worker). ThinksOn e w x) (sym same)
    (record { lives = lives; ids = refl; keys = refl })

pub thinks_on : (e : EngineValue) (w v : Worker) → Thinks w v → WorkerLives e w → ThinksOn e w v
thinks_on e (Trying t) v c lives = comes_on e t v c lives
thinks_on e Idle v c lives = same_on e Idle v c lives
thinks_on e (Wanting t wanted) v c lives = same_on e (Wanting t wanted) v c lives
thinks_on e (WantingNumbers t left) v c lives = same_on e (WantingNumbers t left) v c lives
thinks_on e (Ready d) v c lives = same_on e (Ready d) v c lives
thinks_on e (Blocked t) v c lives = same_on e (Blocked t) v c lives
thinks_on e (Failing t) v c lives = same_on e (Failing t) v c lives
thinks_on e (Leaving r after) v c lives = same_on e (Leaving r after) v c lives
thinks_on e (PutOff p) v c lives = same_on e (PutOff p) v c lives
thinks_on e (Refusing p) v c lives = same_on e (Refusing p) v c lives

pub may_think : (w : Worker) → IsGrown w → MayThink w
may_think (Trying t) grown = grown
may_think Idle grown = tt
may_think (Wanting t wanted) grown = tt
may_think (WantingNumbers t left) grown = tt
may_think (Ready d) grown = tt
may_think (Blocked t) grown = tt
may_think (Failing t) grown = tt
may_think (Leaving r after) grown = tt
may_think (PutOff p) grown = tt
may_think (Refusing p) grown = tt

-- what is called is built
pub called_built : (received : Arrival) (xid : ℕ) (call : Call) (ctx : Ctx) → IsCalled received xid call ctx →
    IsBuilt call
called_built received xid call ctx called =
    arrival-built received (record { xid = xid; ids = ctx.ids; call = call }) called.asked

-- ---- what is given up
pub commit_fails : (e f : EngineValue) (done : FinishedValue) (t : TxnValue) → f ≡ e → t ≡ txn_of done →
    Lives e (txn_of done) → IsTurnOf e f 0 (Ready done) (Failing t) None
commit_fails e f done t same is lives =
    stands_still e f 0 (Ready done) (Failing t) same (ap (λ (x : TxnValue). Some x.id) is)
    (ap (λ (x : TxnValue). Some x.key) is) (subst (λ (x : TxnValue). Lives e x) (sym is) lives) (is, same)

module _ (e : EngineValue) (shard : ℕ) (t : TxnValue) (r : ReleaseValue) (is : r ≡ release_of t)
    (leaving : IsLeaving e r) where
  pub blocked_leaves : IsTurnOf e e shard (Blocked t) (Leaving r Again) None
  blocked_leaves =
      stands_still e e shard (Blocked t) (Leaving r Again) refl (ap (λ (x : ReleaseValue). Some x.id) is)
      (ap (λ (x : ReleaseValue). after_key x.after) is) leaving
      (refl, ap (λ (x : ReleaseValue). Leaving x Again) is, refl)

  pub failing_leaves : IsTurnOf e e shard (Failing t) (Leaving r GiveUp) None
  failing_leaves =
      stands_still e e shard (Failing t) (Leaving r GiveUp) refl (ap (λ (x : ReleaseValue). Some x.id) is)
      (ap (λ (x : ReleaseValue). after_key x.after) is) leaving
      (refl, ap (λ (x : ReleaseValue). Leaving x GiveUp) is, refl)
