-- A worker that is stopped: its call lets go all that it holds, and is in progress no more.
use Rattle.std.proofs.Common.{◌≡◌, ◌≢◌, ℕ, Option, Some, None, IsSome, refl, sym, ◌∙◌, ap, subst, arith}
use Rattle.nfs_machine.specs.Run.{Arrival}
use Rattle.nfs_objects.specs.declared.address.Addr.{Addr}
use Rattle.nfs_objects.specs.declared.address.Addr.TheVariants.{Inode}
use Rattle.nfs_objects.specs.declared.modes.Mode.{Mode}
use Rattle.nfs_replies.specs.declared.origins.Origin.{Origin}
use Rattle.nfs_engine.specs.Book.{BookValue}
use Rattle.nfs_engine.specs.Calls.{FinishedValue, PendingValue, TxnValue, pending_of, txn_of}
use Rattle.nfs_engine.specs.Engine.{EngineValue, IsLeaving, IsRunning, KeepsOthers, LeadsTo, LetsAllGo, Lives}
use Rattle.nfs_engine.specs.Engine.{held_among, release_of}
use Rattle.nfs_engine.specs.Releases.{ReleaseValue}
use Rattle.nfs_engine.specs.Repeats.{origin_of}
use Rattle.nfs_engine.specs.Running.{without_call}
use Rattle.nfs_engine.specs.declared.release.Then.{Then}
use Rattle.nfs_engine.specs.declared.release.Then.TheVariants as then
use Rattle.nfs_schedule.proofs.OtherWorkersLemmas.{places_same, places_without, rest_without}
use Rattle.nfs_schedule.proofs.WorkerStepLemmas.{keeps_living}
use Rattle.nfs_schedule.specs.Answers.{IsUnanswered}
use Rattle.nfs_schedule.specs.Stops.{IsGone, IsStop, received_of}
use Rattle.nfs_schedule.specs.Workers.{worker_id, worker_key}
use Rattle.nfs_schedule.specs.declared.answer.Answer.{Answer}
use Rattle.nfs_schedule.specs.declared.model.worker.Afterwards.{Afterwards}
use Rattle.nfs_schedule.specs.declared.model.worker.Worker.{Worker}
use Rattle.nfs_schedule.specs.declared.model.worker.Worker.TheVariants.{Idle, Leaving, Ready}

-- ---- two steps of one call
module _ (id : ℕ) (e m f : EngineValue) (k : KeepsOthers id e m) (l : KeepsOthers id m f) where
  held_on : (a : Addr) (j : ℕ) → j ≢ id → IsSome (held_among e.shards a j) → IsSome (held_among m.shards a j)
  held_on a j other some = subst (λ (o : Option Mode). IsSome o) (sym (k.holds a j other)) some

  pub keeps_both : KeepsOthers id e f
  keeps_both = record {
    objects = λ a j other held. l.objects a j other (held_on a j other held) ∙ k.objects a j other held;
    lasts = λ n j other held. l.lasts n j other (held_on (Inode n) j other held) ∙ k.lasts n j other held;
    holds = λ a j other. l.holds a j other ∙ k.holds a j other;
    living = λ key r other there. l.living key r other (k.living key r other there);
    lived = λ key r other there. k.lived key r other (l.lived key r other there);
    ids = (let first = k.ids in let then = l.ids in omega (arith, first, then));
    generations = λ n. (let first = k.generations n in let then = l.generations n in omega (arith, first, then));
    setting = l.setting ∙ k.setting;
  }

-- ---- a call that is given up
pub left_gone : (e m f : EngineValue) (r : ReleaseValue) (p : PendingValue) → LetsAllGo e m r (Some p) →
    p.id ≡ r.id → IsGone m f p.key p.id → IsGone e f p.key p.id
left_gone e m f r p lets same gone = record {
  others = keeps_both p.id e m f (subst (λ i. KeepsOthers i e m) (sym same) lets.others) gone.others;
  nothing = gone.nothing;
  book =
      gone.book
      ∙ ap (λ (b : BookValue). record b { living = without_call b.living p.key p.id }) lets.book;
}

pub call_gone : (e m f : EngineValue) (t : TxnValue) (r : ReleaseValue) (p : PendingValue) → r ≡ release_of t →
    LetsAllGo e m r (Some p) → IsGone m f p.key p.id → IsGone e f t.key t.id × (p.received ≡ t.received)
call_gone e m f t r p is lets gone =
    let aborted : then.Aborted p ≡ then.Aborted (pending_of t) =
    sym lets.leads.0 ∙ ap (λ (x : ReleaseValue). x.after) is in
    let same : p ≡ pending_of t = cc in (
      subst (λ (x : PendingValue). IsGone e f x.key x.id) same (left_gone e m f r p lets
          (ap (λ (x : PendingValue). x.id) same ∙ sym (ap (λ (x : ReleaseValue). x.id) is)) gone),
      ap (λ (x : PendingValue). x.received) same,
    )

-- ---- a worker
module _ (e f : EngineValue) (w : Worker) (key id : ℕ) (received : Arrival) (answer : Answer)
    (gone : IsGone e f key id) (o : Option Origin) (running : IsRunning e key id o) (own : worker_id w ≡ Some id)
    (place : worker_key w ≡ Some key) (came : received_of w ≡ Some received)
    (unanswered : IsUnanswered received answer) where
  living : f.book.living ≡ without_call e.book.living key id
  living = ap (λ (b : BookValue). b.living) gone.book

  pub stop_gone : IsStop e f w (Some answer)
  stop_gone = record {
    rest =
        rest_without id e f w Idle gone.others own refl gone.nothing
        (places_without e f w Idle key id o running place living);
    store =
        gone.book
        ∙ ap (λ l. record e.book { living = l }) (sym living);
    stopped = (received, came, unanswered);
  }

-- its call was executed, and holds nothing any more
pub stop_ended : (e f : EngineValue) (r : ReleaseValue) (after : Afterwards) → LetsAllGo e f r None →
    IsStop e f (Leaving r after) None
stop_ended e f r after lets = record {
  rest =
      rest_without r.id e f (Leaving r after) Idle lets.others refl refl lets.nothing
      (places_same e f (Leaving r after) Idle (ap (λ (b : BookValue). b.living) lets.book)
      (sym (ap no_key lets.leads)));
  store = keeps_living e f lets.book;
  stopped = ap no_received lets.leads;
}
  where
    no_key : Then → Option ℕ
    no_key t = worker_key (Leaving (record r { after = t }) after)

    no_received : Then → Option Arrival
    no_received t = received_of (Leaving (record r { after = t }) after)

-- its call may begin anew, and is given up
pub stop_left : (e m f : EngineValue) (r : ReleaseValue) (after : Afterwards) (p : PendingValue) (answer : Answer) →
    IsLeaving e r → LetsAllGo e m r (Some p) → IsGone m f p.key p.id → IsUnanswered p.received answer →
    IsStop e f (Leaving r after) (Some answer)
stop_left e m f r after p answer leaving lets gone unanswered =
    let leads : LeadsTo e r.id (then.Aborted p) = subst (λ (t : Then). LeadsTo e r.id t) lets.leads.0 leaving.after in
    stop_gone e f (Leaving r after) p.key p.id p.received answer (left_gone e m f r p lets leads.0 gone)
    (origin_of p.received p.call) leads.1
    (ap Some (sym leads.0)) (ap key_of lets.leads.0) (ap came_of lets.leads.0) unanswered
  where
    key_of : Then → Option ℕ
    key_of t = worker_key (Leaving (record r { after = t }) after)

    came_of : Then → Option Arrival
    came_of t = received_of (Leaving (record r { after = t }) after)

-- its call is done, and is given up with what it was to change
pub stop_ready : (e f : EngineValue) (done : FinishedValue) (t : TxnValue) (answer : Answer) → t ≡ txn_of done →
    Lives e (txn_of done) → IsGone e f t.key t.id → IsUnanswered t.received answer
    → IsStop e f (Ready done) (Some answer)
stop_ready e f done t answer is lives gone unanswered =
    stop_gone e f (Ready done) done.key done.id done.received answer
    (subst (λ (x : TxnValue). IsGone e f x.key x.id) is gone) (origin_of done.received done.done.call)
    lives.running refl refl refl
    (subst (λ (x : TxnValue). IsUnanswered x.received answer) is unanswered)
