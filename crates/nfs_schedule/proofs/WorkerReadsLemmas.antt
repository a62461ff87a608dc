-- What a worker's call has read, and what it wants next, is each address once and in order: each turn keeps that.
use Rattle.std.proofs.Common.{◌≡◌, ℕ, List, [], ◌∷◌, Option, Some, None, option_map, refl, sym, ◌∙◌, ap, subst}
use Rattle.std.specs.Vec.Iter.{into_iter_items}
use Rattle.nfs_objects.specs.Calls.{named_by}
use Rattle.nfs_objects.specs.Fits.{vacant}
use Rattle.nfs_objects.specs.Rooms.{with_seen}
use Rattle.nfs_objects.specs.Values.{Seen, seen_at}
use Rattle.nfs_objects.specs.declared.address.Addr.{Addr}
use Rattle.nfs_objects.specs.declared.address.Addr.TheVariants.{Inode}
use Rattle.nfs_objects.specs.declared.modes.Mode.{Mode}
use Rattle.nfs_engine.specs.Arrivals.{ArrivalValue}
use Rattle.nfs_engine.specs.Book.{store_in}
use Rattle.nfs_engine.specs.Calls.{FinishedValue, PendingValue, TxnValue, again_of, txn_of}
use Rattle.nfs_engine.specs.Engine.{EngineValue, Lives, Reserving}
use Rattle.nfs_engine.specs.Holders.{hold_of}
use Rattle.nfs_engine.specs.Releases.{ReleaseValue}
use Rattle.nfs_engine.specs.Shards.{SlotValue}
use Rattle.nfs_schedule.proofs.ArrivalsLemmas.{unacquired, unreserved_same}
use Rattle.nfs_schedule.proofs.ReadOrderLemmas.{past_first, past_more, read_asked, read_given, read_left, read_more}
use Rattle.nfs_schedule.proofs.ReadOrderLemmas.{read_none}
use Rattle.nfs_schedule.proofs.WorkerStepLemmas.{thinks_on}
use Rattle.nfs_schedule.specs.Asking.{HasRead, HasReadFirst, IsRead}
use Rattle.nfs_schedule.specs.Grown.{AsksFor}
use Rattle.nfs_schedule.specs.Turns.{Acquires, Admits, Declines, EndsTurn, Follows, Gains, IsNamed, KeepsQueue}
use Rattle.nfs_schedule.specs.Turns.{TakesArrival, TakesFirst, Turns, after_all}
use Rattle.nfs_schedule.specs.Workers.{Comes, Thinks, WorkerLives}
use Rattle.nfs_schedule.specs.declared.answer.Answer.{Answer}
use Rattle.nfs_schedule.specs.declared.model.worker.Afterwards.{Afterwards}
use Rattle.nfs_schedule.specs.declared.model.worker.Afterwards.TheVariants.{Again, GiveUp}
use Rattle.nfs_schedule.specs.declared.model.worker.Worker.{Worker}
use Rattle.nfs_schedule.specs.declared.model.worker.Worker.TheVariants.{Idle, Trying, Wanting, WantingNumbers, Ready}
use Rattle.nfs_schedule.specs.declared.model.worker.Worker.TheVariants.{Blocked}
use Rattle.nfs_schedule.specs.declared.model.worker.Worker.TheVariants.{Failing}
use Rattle.nfs_schedule.specs.declared.model.worker.Worker.TheVariants.{Leaving, PutOff, Refusing}

-- what a call has read and wants
abbrev Reads : TxnValue → List (Addr × Mode) → Type 0
Reads t wanted = IsRead t.call t.view.entries wanted

read_on : (t u : TxnValue) (wanted : List (Addr × Mode)) → u ≡ t → Reads t wanted → Reads u wanted
read_on t u wanted same r = subst (λ (x : TxnValue). Reads x wanted) (sym same) r

read_same : (w v : Worker) → v ≡ w → HasRead w → HasRead v
read_same w v same r = subst (λ (x : Worker). HasRead x) (sym same) r

-- ---- thinking
asks_read : (t : TxnValue) (wanted : List (Addr × Mode)) → Reads t [] → AsksFor t wanted → Reads t wanted
asks_read t wanted r asks = subst (λ (l : List (Addr × Mode)). Reads t l) asks.whole
    (read_asked t.call (named_by t.call t.view) t.view asks.asked.items r asks.attempts asks.first)

comes_read : (t : TxnValue) (v : Worker) → Comes t v → Reads t [] → HasRead v
comes_read t (Wanting u wanted) c r =
    read_on t u (into_iter_items wanted) c.0 (asks_read t (into_iter_items wanted) r c.1)
comes_read t (WantingNumbers u count) c r =
    subst (λ (x : TxnValue). Reads x [] × HasReadFirst x.call x.view.entries) (sym c.0)
    (r, past_first t.call t.view r c.2)
comes_read t (Ready d) c r = read_on t (txn_of d) [] c.0 r
comes_read t (Failing u) c r = read_on t u [] c r
comes_read t Idle c r = absurd c
comes_read t (Trying u) c r = absurd c
comes_read t (Blocked u) c r = absurd c
comes_read t (Leaving left after) c r = absurd c
comes_read t (PutOff p) c r = absurd c
comes_read t (Refusing p) c r = absurd c

thinks_read : (w v : Worker) → Thinks w v → HasRead w → HasRead v
thinks_read (Trying t) v c r = comes_read t v c r
thinks_read Idle v c r = read_same Idle v c r
thinks_read (Wanting t wanted) v c r = read_same (Wanting t wanted) v c r
thinks_read (WantingNumbers t count) v c r = read_same (WantingNumbers t count) v c r
thinks_read (Ready d) v c r = read_same (Ready d) v c r
thinks_read (Blocked t) v c r = read_same (Blocked t) v c r
thinks_read (Failing t) v c r = read_same (Failing t) v c r
thinks_read (Leaving left after) v c r = read_same (Leaving left after) v c r
thinks_read (PutOff p) v c r = read_same (PutOff p) v c r
thinks_read (Refusing p) v c r = read_same (Refusing p) v c r

-- ---- a call that begins
admits_read : (e f : EngineValue) (a : ArrivalValue) (v : Worker) (answer : Option Answer) →
    Admits e f a v answer → HasRead v
admits_read e f a (Trying t) None begins =
    subst (λ (x : TxnValue). Reads x []) (sym begins.txn) (read_none begins.asked.call)
admits_read e f a (Trying t) (Some answer) is = absurd is
admits_read e f a Idle answer is = tt
admits_read e f a (Wanting t wanted) answer is = absurd is
admits_read e f a (WantingNumbers t count) answer is = absurd is
admits_read e f a (Ready d) answer is = absurd is
admits_read e f a (Blocked t) answer is = absurd is
admits_read e f a (Failing t) answer is = absurd is
admits_read e f a (Leaving left after) answer is = tt
admits_read e f a (PutOff p) answer is = tt
admits_read e f a (Refusing p) answer is = tt

takes_read : (e f : EngineValue) (queue later : List ArrivalValue) (v : Worker) (answer : Option Answer) →
    TakesArrival e f queue later v answer → HasRead v
takes_read e f [] later v answer takes = read_same Idle v takes.2 tt
takes_read e f (a ∷ queue) later v answer takes = admits_read e f a v answer takes.1

-- ---- the step of a call
-- what is read of an address
abbrev pub entry_of : EngineValue → Addr × Mode → Seen
entry_of e a = record { address = a.0; mode = a.1; object = (store_in e.book).at a.0 }

given_read : (e : EngineValue) (t u : TxnValue) (a : Addr × Mode) (others : List (Addr × Mode)) →
    u ≡ record t { view = with_seen t.view (entry_of e a) } → Reads t (a ∷ others) → Reads u others
given_read e t u a others is r =
    read_on (record t { view = with_seen t.view (entry_of e a) }) u others is
    (read_given t.call t.view.entries (entry_of e a) others r)

acquires_read : (e : EngineValue) (t : TxnValue) (a : Addr × Mode) (others : List (Addr × Mode)) (v : Worker) →
    Acquires e t a others v → Reads t (a ∷ others) → HasRead v
acquires_read e t a others (Trying u) is r =
    subst (λ (l : List (Addr × Mode)). Reads u l) is.1 (given_read e t u a others is.0 r)
acquires_read e t a others (Wanting u left) is r =
    subst (λ (l : List (Addr × Mode)). Reads u l) (sym is.1) (given_read e t u a others is.0 r)
acquires_read e t a others (Blocked u) is r = read_on t u [] is.1.2 (read_left t.call t.view.entries (a ∷ others) r)
acquires_read e t a others (Failing u) is r =
    read_on t u [] (unacquired e t u a is.0 is.1) (read_left t.call t.view.entries (a ∷ others) r)
acquires_read e t a others Idle is r = absurd is
acquires_read e t a others (WantingNumbers u count) is r = absurd is
acquires_read e t a others (Ready d) is r = absurd is
acquires_read e t a others (Leaving left after) is r = absurd is
acquires_read e t a others (PutOff p) is r = absurd is
acquires_read e t a others (Refusing p) is r = absurd is

first_read : (e : EngineValue) (t : TxnValue) (wanted : List (Addr × Mode)) (v : Worker) →
    TakesFirst e t wanted v → Reads t wanted → HasRead v
first_read e t [] v is r = read_same (Trying t) v is r
first_read e t (a ∷ others) v is r = acquires_read e t a others v is r

-- nobody holds what stands in an empty slot, so no call has read it
none_mapped : (o : Option Seen) → None ≡ option_map (λ (s : Seen). s.mode) o → o ≡ None
none_mapped None is = refl
none_mapped (Some s) is = cc

pub number_unseen : (e : EngineValue) (t u : TxnValue) (shard : ℕ) (r : Reserving e t u shard) → Lives e t →
    seen_at t.view.entries (Inode r.reserved.number) ≡ None
number_unseen e t u shard r lives = none_mapped (seen_at t.view.entries (Inode r.reserved.number))
    (sym (ap (λ (s : SlotValue). hold_of s.holders t.id) r.empty) ∙ lives.holds.exactly (Inode r.reserved.number))

-- a new number is one entry more
gained_read : (e : EngineValue) (shard : ℕ) (t u : TxnValue) (is : Reserving e t u shard) → Lives e t → Reads t [] →
    HasReadFirst t.call t.view.entries → Reads u [] × HasReadFirst u.call u.view.entries
gained_read e shard t u is lives r past =
    subst (λ (x : TxnValue). Reads x [] × HasReadFirst x.call x.view.entries) (sym is.call) (
      read_more t.call t.view (vacant is.reserved) r past (number_unseen e t u shard is lives),
      past_more t.call t.view.entries (vacant is.reserved) past,
    )

gains_read : (e : EngineValue) (shard : ℕ) (t : TxnValue) (left : ℕ) (v : Worker) → Gains e shard t left v →
    Lives e t → Reads t [] → HasReadFirst t.call t.view.entries → HasRead v
gains_read e shard t left (Trying u) is lives r past = (gained_read e shard t u is.0 lives r past).0
gains_read e shard t left (WantingNumbers u count) is lives r past = gained_read e shard t u is.0 lives r past
gains_read e shard t left (Failing u) is lives r past = read_on t u [] (unreserved_same e shard t u is.0 is.1) r
gains_read e shard t left Idle is lives r past = absurd is
gains_read e shard t left (Wanting u wanted) is lives r past = absurd is
gains_read e shard t left (Ready d) is lives r past = absurd is
gains_read e shard t left (Blocked u) is lives r past = absurd is
gains_read e shard t left (Leaving freed after) is lives r past = absurd is
gains_read e shard t left (PutOff p) is lives r past = absurd is
gains_read e shard t left (Refusing p) is lives r past = absurd is

ends_read : (e f : EngineValue) (done : FinishedValue) (v : Worker) (answer : Option Answer) →
    EndsTurn e f done v answer → Reads (txn_of done) [] → HasRead v
ends_read e f done (Failing t) None is r = read_on (txn_of done) t [] is.0 r
ends_read e f done (Failing t) (Some answer) is r = absurd is
ends_read e f done Idle answer is r = tt
ends_read e f done (Leaving left after) answer is r = tt
ends_read e f done (PutOff p) answer is r = tt
ends_read e f done (Refusing p) answer is r = tt
ends_read e f done (Trying t) answer is r = absurd is
ends_read e f done (Wanting t wanted) answer is r = absurd is
ends_read e f done (WantingNumbers t count) answer is r = absurd is
ends_read e f done (Ready d) answer is r = absurd is
ends_read e f done (Blocked t) answer is r = absurd is

-- ---- the end of a call
after_read : (p : PendingValue) (after : Afterwards) → HasRead (after_all p after)
after_read p Again = tt
after_read p GiveUp = tt

follows_read : (e f : EngineValue) (left : ReleaseValue) (after : Afterwards) (v : Worker) → Follows e f left after v →
    HasRead v
follows_read e f left after Idle is = tt
follows_read e f left after (Leaving more still) is = tt
follows_read e f left after (PutOff p) is = tt
follows_read e f left after (Refusing p) is = tt
follows_read e f left after (Trying t) is = read_same (after_all is.0 after) (Trying t) is.2 (after_read is.0 after)
follows_read e f left after (Wanting t wanted) is =
    read_same (after_all is.0 after) (Wanting t wanted) is.2 (after_read is.0 after)
follows_read e f left after (WantingNumbers t count) is =
    read_same (after_all is.0 after) (WantingNumbers t count) is.2 (after_read is.0 after)
follows_read e f left after (Ready d) is = read_same (after_all is.0 after) (Ready d) is.2 (after_read is.0 after)
follows_read e f left after (Blocked t) is = read_same (after_all is.0 after) (Blocked t) is.2 (after_read is.0 after)
follows_read e f left after (Failing t) is = read_same (after_all is.0 after) (Failing t) is.2 (after_read is.0 after)

declines_read : (p : PendingValue) (v : Worker) (answer : Option Answer) → Declines p v answer → HasRead v
declines_read p Idle answer is = tt
declines_read p (Leaving left after) answer is = tt
declines_read p (PutOff q) answer is = tt
declines_read p (Refusing q) answer is = tt
declines_read p (Trying t) answer is = absurd is
declines_read p (Wanting t wanted) answer is = absurd is
declines_read p (WantingNumbers t count) answer is = absurd is
declines_read p (Ready d) answer is = absurd is
declines_read p (Blocked t) answer is = absurd is
declines_read p (Failing t) answer is = absurd is

-- ---- a turn
named_read : (e f : EngineValue) (queue later : List ArrivalValue) (shard : ℕ) (w v : Worker)
    (answer : Option Answer) → IsNamed e f shard w v answer → KeepsQueue e f queue later w v answer →
    WorkerLives e w → HasRead w → HasRead v
named_read e f queue later shard Idle v answer n q lives r = takes_read e f queue later v answer q
named_read e f queue later shard (Trying t) v answer n q lives r = read_same (Trying t) v n.1 r
named_read e f queue later shard (Wanting t wanted) v answer n q lives r =
    first_read e t (into_iter_items wanted) v n.1 r
named_read e f queue later shard (WantingNumbers t count) v answer n q lives r =
    gains_read e shard t count v n.1 lives.0 r.0 r.1
named_read e f queue later shard (Ready d) v answer n q lives r = ends_read e f d v answer n r
named_read e f queue later shard (Blocked t) v answer n q lives r = subst (λ (x : Worker). HasRead x) (sym n.1) tt
named_read e f queue later shard (Failing t) v answer n q lives r = subst (λ (x : Worker). HasRead x) (sym n.1) tt
named_read e f queue later shard (Leaving left after) v answer n q lives r = follows_read e f left after v n.1
named_read e f queue later shard (PutOff p) v answer n q lives r =
    read_same (Trying (again_of p)) v n.1 (read_none p.call)
named_read e f queue later shard (Refusing p) v answer n q lives r = declines_read p v answer n

pub turn_read : (e f : EngineValue) (queue later : List ArrivalValue) (shard : ℕ) (w v : Worker)
    (answer : Option Answer) → Turns e f queue later shard w v answer → WorkerLives e w → HasRead w → HasRead v
turn_read e f queue later shard w v answer turns lives r =
    named_read e f queue later shard turns.thought v answer turns.step.named turns.queued
    (thinks_on e w turns.thought turns.thinks lives).lives (thinks_read w turns.thought turns.thinks r)
