-- What is true of a world at every moment, by what it keeps.
use Rattle.std.proofs.Common.{◌≡◌, ℕ, ◌==◌, Bool, true, false, cond, Option, Some, None, IsSome, List, [], refl, sym}
use Rattle.std.proofs.Common.{◌∙◌, subst}
use Rattle.std.specs.Cmp.{unsigned_Decides}
use Rattle.std.specs.Vec.Iter.{into_iter_items}
use Rattle.nfs_objects.specs.declared.address.Addr.{Addr}
use Rattle.nfs_objects.specs.declared.modes.Mode.{Mode}
use Rattle.nfs_objects.specs.declared.modes.Mode.TheVariants.{Shared, Exclusive}
use Rattle.nfs_engine.specs.Book.{BookValue, IsRun, store_in}
use Rattle.nfs_engine.specs.Calls.{TxnValue, txn_of}
use Rattle.nfs_engine.specs.Engine.{IsTied, Lives, slot_among}
use Rattle.nfs_engine.specs.Holders.{hold_in, is_among}
use Rattle.nfs_schedule.proofs.AsksFewLemmas.{reads_few}
use Rattle.nfs_schedule.specs.Asking.{HasRead, IsRead, wanted_by}
use Rattle.nfs_schedule.specs.Order.{IsOrderly, IsReading, KeepsApart, executed_by}
use Rattle.nfs_schedule.specs.Workers.{WorkerLives}
use Rattle.nfs_schedule.specs.Worlds.{IsKept, WorldValue}
use Rattle.nfs_schedule.specs.declared.model.worker.Worker.{Worker}
use Rattle.nfs_schedule.specs.declared.model.worker.Worker.TheVariants.{Idle, Trying, Wanting, WantingNumbers, Ready}
use Rattle.nfs_schedule.specs.declared.model.worker.Worker.TheVariants.{Blocked}
use Rattle.nfs_schedule.specs.declared.model.worker.Worker.TheVariants.{Failing}
use Rattle.nfs_schedule.specs.declared.model.worker.Worker.TheVariants.{Leaving, PutOff, Refusing}

-- ---- who holds an address alone
beside_shares : (m : Option Mode) (t : Bool) → m ≡ cond t (Some Shared) None → m ≡ Some Exclusive → ⊥
beside_shares m true is alone = let both : Some Shared ≡ Some Exclusive = sym is ∙ alone in cc
beside_shares m false is alone = let both : None ≡ Some Exclusive = sym is ∙ alone in cc

holds_here : (h j : ℕ) → IsSome (cond (h == j) (Some Exclusive) None) → h ≡ j
holds_here h j =
    elim (h == j) as (λ b. (h == j) ≡ b → IsSome (cond b (Some Exclusive) None) → h ≡ j) [
      | true ↦ λ is some. (unsigned_Decides h j).0 is
      | false ↦ λ is some. absurd (let no : IsSome {T = Mode} None = some in cc)
    ] refl

some_of : (m : Option Mode) (x : Mode) → m ≡ Some x → IsSome m
some_of m x is = subst (λ (o : Option Mode). IsSome o) (sym is) refl

one_alone : (alone : Option ℕ) (beside : List ℕ) (i j : ℕ) → hold_in alone beside i ≡ Some Exclusive →
    IsSome (hold_in alone beside j) → j ≡ i
one_alone (Some h) beside i j is some =
    sym (holds_here h j some) ∙ holds_here h i (some_of (hold_in (Some h) beside i) Exclusive is)
one_alone None beside i j is some = absurd (beside_shares (hold_in None beside i) (is_among beside i) refl is)

-- ---- what calls have read
reading : (w : WorldValue) (t u : TxnValue) → Some t ≡ Some u → Lives w.engine t → IsReading w u
reading w t u is lives =
    let same : t ≡ u = cc in
    subst (λ (x : TxnValue). IsReading w x) same
    (record { fits = lives.fits; holds = λ a. lives.holds.exactly a })

not_one : (w : WorldValue) (t : TxnValue) → None ≡ Some t → IsReading w t
not_one w t is = cc

reads : (w : WorldValue) (u : Worker) (t : TxnValue) → executed_by u ≡ Some t → WorkerLives w.engine u → IsReading w t
reads w (Trying x) t is lives = reading w x t is lives.0
reads w (Wanting x wanted) t is lives = reading w x t is lives.0
reads w (WantingNumbers x left) t is lives = reading w x t is lives.0
reads w (Ready f) t is lives = reading w (txn_of f) t is lives
reads w (Blocked x) t is lives = reading w x t is lives
reads w (Failing x) t is lives = reading w x t is lives
reads w Idle t is lives = not_one w t is
reads w (Leaving r after) t is lives = not_one w t is
reads w (PutOff p) t is lives = not_one w t is
reads w (Refusing p) t is lives = not_one w t is

-- ---- what they want next
asked_so : (t u : TxnValue) (wanted : List (Addr × Mode)) → Some t ≡ Some u →
    IsRead t.call t.view.entries wanted → IsRead u.call u.view.entries wanted
asked_so t u wanted is r =
    let same : t ≡ u = cc in subst (λ (x : TxnValue). IsRead x.call x.view.entries wanted) same r

asks_so : (u : Worker) (t : TxnValue) → executed_by u ≡ Some t → HasRead u → IsRead t.call t.view.entries (wanted_by u)
asks_so (Trying x) t is r = asked_so x t [] is r
asks_so (Wanting x wanted) t is r = asked_so x t (into_iter_items wanted) is r
asks_so (WantingNumbers x count) t is r = asked_so x t [] is r.0
asks_so (Ready f) t is r = asked_so (txn_of f) t [] is r
asks_so (Blocked x) t is r = asked_so x t [] is r
asks_so (Failing x) t is r = asked_so x t [] is r
asks_so Idle t is r = cc
asks_so (Leaving left after) t is r = cc
asks_so (PutOff p) t is r = cc
asks_so (Refusing p) t is r = cc

-- ---- the owners of locks
keeps_apart : (b : BookValue) → IsRun b → KeepsApart (store_in b)
keeps_apart b run = record {
  state = run.leads.state;
  stands = run.leads.stands;
  apart = run.leads.stands.formed.locks.apart;
  held_up = run.leads.stands.formed.locks.held_up;
}

pub orderly : (w : WorldValue) → IsTied w.engine → IsRun w.engine.book → IsKept w.engine w.workers → IsOrderly w
orderly w tied run kept = record {
  tied = tied;
  locks = keeps_apart w.engine.book run;
  alone = λ a i j is some.
      one_alone (slot_among w.engine.shards a).holders.alone (slot_among w.engine.shards a).holders.beside i j is some;
  held = kept.held;
  reads = λ i u t there is. reads w u t is (kept.lives i u there);
  asks = λ i u t there is. asks_so u t is (kept.read i u there);
  few = λ i u t there is. reads_few u t is (kept.grown i u there);
}
