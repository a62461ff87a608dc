-- A call that is alone in the engine: it goes on, it ends, and leaves the engine at rest.
use Rattle.std.proofs.Common.{◌≡◌, ◌≢◌, ℕ, zero, suc, ◌+◌, List, [], ◌∷◌, length, Option, Some, None, IsSome}
use Rattle.std.proofs.Common.{refl, sym, ◌∙◌, ap, subst}
use Rattle.std.proofs.Common.{get_or, set, inl, inr, IfSome}
use Rattle.nfs_machine.specs.RpcReplies.{success_message}
use Rattle.nfs_machine.specs.Run.{Arrival}
use Rattle.nfs_replies.specs.declared.origins.Origin.{Origin}
use Rattle.nfs_engine.proofs.OneShardOfSixteenLemmas.{alike_or}
use Rattle.nfs_engine.specs.Arrivals.{ArrivalValue, incoming_value}
use Rattle.nfs_engine.specs.Book.{BeginsCall, BookValue, Commits, GivesUp, IsUnknown, LeadsBook, Repeats, Steps}
use Rattle.nfs_engine.specs.Book.{StillRuns, new_txn}
use Rattle.nfs_engine.specs.Calls.{FinishedValue, PendingValue, TxnValue, pending_of, txn_of}
use Rattle.nfs_engine.specs.Commits.{IsReceipt}
use Rattle.nfs_engine.specs.Engine.{EngineValue, IsRunning, LetsAllGo}
use Rattle.nfs_engine.specs.Engine.{Lives, held_among, release_of}
use Rattle.nfs_engine.specs.Releases.{ReleaseValue}
use Rattle.nfs_engine.specs.Repeats.{Keeps, RepeatValue, kept_for, origin_of}
use Rattle.nfs_engine.specs.Running.{running_at, without_call}
use Rattle.nfs_engine.specs.declared.admission.Refused as given
use Rattle.nfs_engine.specs.declared.asking.Asked.{Asked}
use Rattle.nfs_engine.specs.declared.journal.Receipt.{Receipt}
use Rattle.nfs_engine.specs.declared.release.Then.TheVariants as then
use Rattle.nfs_engine.specs.declared.running.Running.{Running}
use Rattle.nfs_schedule.proofs.OtherWorkersLemmas.{places_without}
use Rattle.nfs_schedule.specs.Answers.{IsRefused}
use Rattle.nfs_schedule.specs.Courses.{HasReadFew}
use Rattle.nfs_schedule.specs.Executions.{Answers, EndsIn, Frees, GoesOn, HoldsAlone, IsAlone}
use Rattle.nfs_schedule.specs.Turns.{Executes, KeepsStore}
use Rattle.nfs_schedule.specs.Worlds.{IsAtRest}
use Rattle.nfs_schedule.specs.declared.answer.Answer.{Answer}
use Rattle.nfs_schedule.specs.declared.answer.Answer.TheVariants as answers
use Rattle.nfs_schedule.specs.declared.model.worker.Worker.TheVariants.{Idle, Refusing}

-- ---- a call that begins
pub begins_keeps : (e f : EngineValue) (a : ArrivalValue) (t : TxnValue) → BeginsCall e.book f.book a t → KeepsStore e f
begins_keeps e f a t b =
    b.rest ∙ ap (λ n. record e.book { living = f.book.living; next_id = n })
    (sym (ap (λ (x : BookValue). x.next_id) b.rest))

-- ---- a call that goes on
pub goes_none : (e : EngineValue) (t : TxnValue) → Lives e t → HoldsAlone e t.id → GoesOn e e t t
goes_none e t lives alone = record { lives = lives; alone = alone; book = refl; call = refl }

pub goes_join : (e f g : EngineValue) (t u v : TxnValue) → GoesOn e f t u → GoesOn f g u v → GoesOn e g t v
goes_join e f g t u v a b = record {
  lives = b.lives;
  alone = b.alone;
  book = b.book ∙ a.book;
  call = b.call ∙ ap (λ (x : TxnValue). record x { view = v.view }) a.call;
}

-- ---- a release
-- what it lets go is all that was held
pub frees_all : (e f : EngineValue) (r : ReleaseValue) (left : Option PendingValue) → HoldsAlone e r.id →
    LetsAllGo e f r left → Frees e f r left
frees_all e f r left alone lets = record {
  book = lets.book;
  held = λ a j. alike_or j r.id
      (λ here. ap (λ i. held_among f.shards a i) here ∙ lets.nothing a)
      (λ other. lets.others.holds a j other ∙ alone a j other);
  leads = lets.leads;
}

-- ---- the end of a call
is_none : {X : Type 0} (o : Option X) → (IsSome o → ⊥) → o ≡ None
is_none None never = refl
is_none (Some x) never = absurd (never refl)

-- ---- which calls are in progress
taken_out : (l : List (Option Running)) (k : ℕ) → get_or (set l k None) k None ≡ None
taken_out [] k = refl
taken_out (x ∷ l) zero = refl
taken_out (x ∷ l) (suc k) = taken_out l k

-- a call that is over was the only one
none_running : (e f : EngineValue) (id key : ℕ) (o : Option Origin) → IsRunning e key id o →
    ((k : ℕ) → k ≢ key → running_at e.book.living k ≡ None) → f.book.living ≡ without_call e.book.living key id →
    (p : PendingValue) → p.key ≡ key → (k : ℕ) → running_at f.book.living k ≡ None
none_running e f id key o r alone is p at k = is_none (running_at f.book.living k)
    (λ some. elim (places_without e f (Refusing p) Idle key id o r (ap Some at) is k some) [
      | inl here ↦ cc
      | inr was ↦ absurd (let none : IsSome {T = Running} None = subst (λ (o : Option Running). IsSome o)
          (alone k (λ same. was.1 (ap Some (at ∙ sym same)))) was.0 in cc)
    ])

-- what was executed left the engine at rest
pub rests_committed : (e f g : EngineValue) (d : FinishedValue) (r : ReleaseValue) (receipt : Receipt) →
    Lives e (txn_of d) → IsAlone e d.id d.key → Executes e f d receipt → Frees f g r None → IsAtRest g
rests_committed e f g d r receipt lives alone x free = record {
  running = λ k. ap (λ (b : BookValue). running_at b.living k) free.book
      ∙ none_running e f d.id d.key (origin_of d.received d.done.call) lives.running alone.running
      (ap (λ (b : BookValue). b.living) x.commits.rest)
      (pending_of (txn_of d)) refl k;
  held = free.held;
}

pub executes_on : (e f g : EngineValue) (d : FinishedValue) (receipt : Receipt) → Executes e f d receipt →
    g.book ≡ f.book → Executes e g d receipt
executes_on e f g d receipt x same = record {
  commits = subst (λ (b : BookValue). Commits e.book b d) (sym same) x.commits;
  keeps =
      subst (λ (b : BookValue). Keeps (origin_of d.received d.done.call) (success_message d.xid d.done.change.reply)
      e.book.replies b.replies) (sym same) x.keeps;
  step = subst (λ (b : BookValue). Steps e.book b d.done) (sym same) x.step;
  leads = subst (λ (b : BookValue). LeadsBook e.book b) (sym same) x.leads;
  receipt_is = x.receipt_is;
}

pub ends_executed : (e f g : EngineValue) (d : FinishedValue) (r : ReleaseValue) (receipt : Receipt) →
    HasReadFew (txn_of d) → Executes e f d receipt → Frees f g r None →
    EndsIn e g (txn_of d) (answers.Executed receipt)
ends_executed e f g d r receipt few x free = record {
  done = d;
  call = refl;
  few = few;
  executes = executes_on e f g d receipt x free.book;
}

-- ---- a call that is given up
refused_ends : (e f : EngineValue) (t : TxnValue) (answer : Answer) → KeepsStore e f →
    IsRefused t.received (record { xid = t.xid; ids = t.ctx.ids; call = t.call }) answer → EndsIn e f t answer
refused_ends e f t (answers.Executed receipt) keeps is = absurd is
refused_ends e f t (answers.Repeated kept) keeps is = absurd is
refused_ends e f t (answers.Refused declined) keeps is = (keeps, is)
refused_ends e f t (answers.Early faulted) keeps is = absurd is
refused_ends e f t (answers.Unanswered received) keeps is = absurd is

-- the engine as the release of a call left it, and as it is when the call is given up
module _ (e f g : EngineValue) (t : TxnValue) (r : ReleaseValue) (p : PendingValue) (refused : given.Refused)
    (lives : Lives e t) (alone : IsAlone e t.id t.key) (is : r ≡ release_of t) (free : Frees e f r (Some p))
    (gives : GivesUp f.book g.book p refused) (shards : g.shards ≡ f.shards) where
  own : p ≡ pending_of t
  own =
      let both : then.Aborted p ≡ then.Aborted (pending_of t) =
      sym free.leads.0 ∙ ap (λ (x : ReleaseValue). x.after) is in
      cc

  keeps : KeepsStore e g
  keeps =
      gives.rest ∙ ap (λ (b : BookValue). record b { living = without_call b.living p.key p.id }) free.book
      ∙ ap (λ l. record e.book { living = l })
      (sym (ap (λ (b : BookValue). b.living) gives.rest
      ∙ ap (λ (b : BookValue). without_call b.living p.key p.id) free.book))
      ∙ ap (λ n. record e.book { living = g.book.living; next_id = n })
      (sym (ap (λ (b : BookValue). b.next_id) gives.rest ∙ ap (λ (b : BookValue). b.next_id) free.book))

  pub rests_declined : IsAtRest g
  rests_declined = record {
    running = none_running e g t.id t.key (origin_of t.received t.call) lives.running alone.running
        (ap (λ (b : BookValue). b.living) gives.rest
        ∙ ap (λ (b : BookValue). without_call b.living p.key p.id) free.book
        ∙ ap (λ (q : PendingValue). without_call e.book.living q.key q.id) own) (pending_of t) refl;
    held = λ a j. ap (λ s. held_among s a j) shards ∙ free.held a j;
  }

  pub ends_declined : (answer : Answer) → IsRefused (incoming_value refused.received) refused.asked answer →
      EndsIn e g t answer
  ends_declined answer declined =
      refused_ends e g t answer keeps
      (subst (λ (q : PendingValue). IsRefused q.received (record { xid = q.xid; ids = q.ctx.ids; call = q.call })
      answer)
      own
      (subst (λ (a : Asked). IsRefused p.received a answer) gives.asked
      (subst (λ (x : Arrival). IsRefused x refused.asked answer) gives.received declined)))

-- ---- a call that ends as it began
executes_from : (e f g : EngineValue) (d : FinishedValue) (receipt : Receipt) → Executes f g d receipt →
    f.book ≡ e.book → Executes e g d receipt
executes_from e f g d receipt x same = record {
  commits = subst (λ (b : BookValue). Commits b g.book d) same x.commits;
  keeps =
      subst (λ (b : BookValue). Keeps (origin_of d.received d.done.call) (success_message d.xid d.done.change.reply)
      b.replies g.book.replies) same x.keeps;
  step = subst (λ (b : BookValue). Steps b g.book d.done) same x.step;
  leads = subst (λ (b : BookValue). LeadsBook b g.book) same x.leads;
  receipt_is = subst (λ (b : BookValue). IsReceipt (b.before + length b.records + 1) d receipt) same x.receipt_is;
}

keeps_from : (e f g : EngineValue) → KeepsStore f g → f.book ≡ e.book → KeepsStore e g
keeps_from e f g keeps same =
    subst (λ (b : BookValue). g.book ≡ record b { living = g.book.living; next_id = g.book.next_id }) same keeps

keeps_join : (e f g : EngineValue) → KeepsStore e f → KeepsStore f g → KeepsStore e g
keeps_join e f g a b = b ∙ ap (λ (x : BookValue). record x { living = g.book.living; next_id = g.book.next_id }) a

ends_moved : (e f g : EngineValue) (t u : TxnValue) (answer : Answer) → f.book ≡ e.book →
    u ≡ record t { view = u.view } → EndsIn f g u answer → EndsIn e g t answer
ends_moved e f g t u (answers.Executed receipt) book call x = record {
  done = x.done;
  call = x.call ∙ ap (λ (v : TxnValue). record v { view = x.done.done.view }) call;
  few = x.few;
  executes = executes_from e f g x.done receipt x.executes book;
}
ends_moved e f g t u (answers.Repeated kept) book call x = absurd x
ends_moved e f g t u (answers.Refused declined) book call x = (
  keeps_from e f g x.0 book,
  subst (λ (v : TxnValue). IsRefused v.received (record { xid = v.xid; ids = v.ctx.ids; call = v.call })
      (answers.Refused declined))
      call x.1,
)
ends_moved e f g t u (answers.Early faulted) book call x = absurd x
ends_moved e f g t u (answers.Unanswered received) book call x = absurd x

pub ends_after : (e f g : EngineValue) (t u : TxnValue) (answer : Answer) → GoesOn e f t u → EndsIn f g u answer →
    EndsIn e g t answer
ends_after e f g t u answer on x = ends_moved e f g t u answer on.book on.call x

-- ---- a record that came in
module _ (e b g : EngineValue) (a : ArrivalValue) (t : TxnValue) (begins : BeginsCall e.book b.book a t) where
  unkept_of : (o : Option Origin) → IfSome o (IsUnknown e.book) →
      IfSome o (λ x. kept_for e.book.replies x ≡ None)
  unkept_of None unknown = tt
  unkept_of (Some x) unknown = unknown.unkept

  pub answers_begun : (answer : Answer) → EndsIn b g t answer → Answers e g a answer
  answers_begun (answers.Executed receipt) x =
      let same : txn_of x.done ≡ record t { view = x.done.done.view } = x.call in
      let began : txn_of x.done ≡ record (new_txn e.book a begins.asked t.key) { view = x.done.done.view } =
      same ∙ ap (λ (v : TxnValue). record v { view = x.done.done.view }) begins.txn in
      record {
        asked = begins.asked;
        asks = begins.asks;
        unkept = unkept_of (origin_of a.received begins.asked.call) begins.unknown;
        begun = b;
        begins = begins_keeps e b a t begins;
        done = x.done;
        received = ap (λ (v : TxnValue). v.received) began;
        xid = ap (λ (v : TxnValue). v.xid) began;
        call = ap (λ (v : TxnValue). v.call) began;
        ctx = ap (λ (v : TxnValue). v.ctx) began;
        few = x.few;
        executes = x.executes;
      }
  answers_begun (answers.Repeated kept) x = absurd x
  answers_begun (answers.Refused declined) x = (
    begins.asked,
    begins.asks,
    keeps_join e b g (begins_keeps e b a t begins) x.0,
    subst (λ (v : TxnValue). IsRefused v.received (record { xid = v.xid; ids = v.ctx.ids; call = v.call })
        (answers.Refused declined))
        begins.txn x.1,
  )
  answers_begun (answers.Early faulted) x = absurd x
  answers_begun (answers.Unanswered received) x = absurd x

-- ---- a record that came before
pub repeat_rests : (e f : EngineValue) (a : ArrivalValue) (kept : RepeatValue) → Repeats e.book f.book a kept →
    f.shards ≡ e.shards → IsAtRest e → IsAtRest f
repeat_rests e f a kept r shards rest = record {
  running = λ k. ap (λ (b : BookValue). running_at b.living k) r.rest ∙ rest.running k;
  held = λ x j. ap (λ s. held_among s x j) shards ∙ rest.held x j;
}

-- where no call is in progress none came with the same
pub none_still_runs : (e f : EngineValue) (a back : ArrivalValue) → IsAtRest e →
    StillRuns e.book f.book a back → ⊥
none_still_runs e f a back rest runs =
    let none : None ≡ Some runs.running.1.running = sym (rest.running runs.running.0) ∙ runs.running.1.there in cc
