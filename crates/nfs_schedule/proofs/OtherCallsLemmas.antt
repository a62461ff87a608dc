-- What one call's step leaves of what others have.
use Rattle.std.proofs.Common.{◌≡◌, ◌≢◌, ℕ, ◌<◌, ◌%◌, true, false, cond, List, [], ◌∷◌, Option, Some, None, IsSome}
use Rattle.std.proofs.Common.{option_map, refl, sym, ◌∙◌, subst, arith}
use Rattle.std.specs.List.{AllByRecursion}
use Rattle.nfs_machine.specs.Run.{Setting}
use Rattle.nfs_machine.specs.declared.context.Ctx.{Ctx}
use Rattle.nfs_objects.proofs.SeenLemmas.{all-map, is_addr-refl}
use Rattle.nfs_objects.specs.Fits.{vacant}
use Rattle.nfs_objects.specs.Values.{Seen, is_addr, seen_at}
use Rattle.nfs_objects.specs.declared.address.Addr.{Addr}
use Rattle.nfs_objects.specs.declared.address.Addr.TheVariants.{Inode}
use Rattle.nfs_objects.specs.declared.modes.Mode.{Mode}
use Rattle.nfs_objects.specs.declared.view.Reserved.{Reserved}
use Rattle.nfs_replies.specs.declared.origins.Origin.{Origin}
use Rattle.nfs_engine.specs.Book.{store_in}
use Rattle.nfs_engine.specs.Calls.{IsUnder, TxnValue, again_of, txn_of}
use Rattle.nfs_engine.specs.Engine.{EngineValue, Holds, IsLeaving, IsRunning, KeepsOthers, LeadsTo, Lives, held_among}
use Rattle.nfs_engine.specs.Engine.{kept_by, mode_in, shard_among}
use Rattle.nfs_engine.specs.Releases.{ReleaseValue}
use Rattle.nfs_engine.specs.Repeats.{origin_of}
use Rattle.nfs_engine.specs.declared.release.Then.{Then}
use Rattle.nfs_engine.specs.declared.release.Then.TheVariants.{Aborted, Ended}
use Rattle.nfs_schedule.specs.Workers.{WorkerLives, worker_id}
use Rattle.nfs_schedule.specs.declared.model.worker.Worker.{Worker}
use Rattle.nfs_schedule.specs.declared.model.worker.Worker.TheVariants.{Idle, Trying, Wanting, WantingNumbers, Ready}
use Rattle.nfs_schedule.specs.declared.model.worker.Worker.TheVariants.{Blocked}
use Rattle.nfs_schedule.specs.declared.model.worker.Worker.TheVariants.{Failing}
use Rattle.nfs_schedule.specs.declared.model.worker.Worker.TheVariants.{Leaving, PutOff, Refusing}

-- each address that was read is seen
seen_itself : (es : List Seen) → AllByRecursion (λ (e : Seen). IsSome (seen_at es e.address)) es
seen_itself [] = tt
seen_itself (x ∷ es) = (
  subst (λ t. IsSome (cond t (Some x) (seen_at es x.address))) (sym (is_addr-refl x.address)) refl,
  all-map (λ (e : Seen). IsSome (seen_at es e.address)) (λ (e : Seen). IsSome (seen_at (x ∷ es) e.address))
      (λ e some. elim (is_addr x.address e.address) as (λ t. IsSome (cond t (Some x) (seen_at es e.address))) [
        | true ↦ refl
        | false ↦ some
      ]) es (seen_itself es),
)

pub all_both : {X : Type 0} (P Q R : X → Type 0) (xs : List X) → ((x : X) → P x → Q x → R x) → AllByRecursion P xs →
    AllByRecursion Q xs → AllByRecursion R xs
all_both P Q R [] f p q = tt
all_both P Q R (x ∷ xs) f p q = (f x p.0 q.0, all_both P Q R xs f p.1 q.1)

is_held : (o : Option Seen) → IsSome o → IsSome (option_map (λ (e : Seen). e.mode) o)
is_held None some = cc
is_held (Some e) some = refl

module _ (id : ℕ) (e f : EngineValue) (k : KeepsOthers id e f) where
  pub holds_on : (j : ℕ) (hold : Addr → Option Mode) → j ≢ id → Holds e j hold → Holds f j hold
  holds_on j hold apart h = record {
    exactly = λ a. k.holds a j apart ∙ h.exactly a;
    known = (let more = k.ids in let was = h.known in omega (arith, more, was));
  }

  pub running_on : (key j : ℕ) (o : Option Origin) → j ≢ id → IsRunning e key j o → IsRunning f key j o
  running_on key j o apart r = record {
    running = r.running;
    there = k.living key r.running (λ is. apart (sym r.same ∙ is)) r.there;
    same = r.same;
    came = r.came;
  }

  pub under_on : (ctx : Ctx) → IsUnder e.book.setting ctx → IsUnder f.book.setting ctx
  under_on ctx = subst (λ (s : Setting). IsUnder s ctx) (sym k.setting)

  module _ (t : TxnValue) (apart : t.id ≢ id) (lives : Lives e t) where
    holds : (a : Addr) → IsSome (seen_at t.view.entries a) → IsSome (held_among e.shards a t.id)
    holds a some = subst (λ (m : Option Mode). IsSome m) (sym (lives.holds.exactly a))
        (is_held (seen_at t.view.entries a) some)

    pub lives_on : Lives f t
    lives_on = record {
      fits = record {
        entries =
            all_both (λ (x : Seen). (store_in e.book).at x.address ≡ x.object)
            (λ (x : Seen). IsSome (seen_at t.view.entries x.address))
            (λ (x : Seen). (store_in f.book).at x.address ≡ x.object) t.view.entries
            (λ x fits some. k.objects x.address t.id apart (holds x.address some) ∙ fits) lives.fits.entries
            (seen_itself t.view.entries);
        reserved =
            all-map (λ (r : Reserved). (seen_at t.view.entries (Inode r.number) ≡ Some (vacant r)) ×
            ((store_in e.book).last r.number < r.generation))
            (λ (r : Reserved). (seen_at t.view.entries (Inode r.number) ≡ Some (vacant r)) ×
            ((store_in f.book).last r.number < r.generation))
            (λ r is. (
              is.0,
              subst (λ n. n < r.generation) (sym (k.lasts r.number t.id apart
                  (holds (Inode r.number) (subst (λ (o : Option Seen). IsSome o) (sym is.0) refl)))) is.1,
            ))
            t.view.reserved lives.fits.reserved;
      };
      holds = holds_on t.id (mode_in t.view.entries) apart lives.holds;
      fresh =
          all-map (λ (r : Reserved). r.generation < (shard_among e.shards (r.number % 16)).next_generation)
          (λ (r : Reserved). r.generation < (shard_among f.shards (r.number % 16)).next_generation)
          (λ r is. (let more = k.generations (r.number % 16) in omega (arith, is, more))) t.view.reserved lives.fresh;
      running = running_on t.key t.id (origin_of t.received t.call) apart lives.running;
      under = under_on t.ctx lives.under;
    }

  leads_on : (j : ℕ) (after : Then) → j ≢ id → LeadsTo e j after → LeadsTo f j after
  leads_on j (Aborted p) apart l =
      (l.0, running_on p.key p.id (origin_of p.received p.call) (λ is. apart (sym l.0 ∙ is)) l.1, under_on p.ctx l.2)
  leads_on j Ended apart l = tt

  pub leaving_on : (r : ReleaseValue) → r.id ≢ id → IsLeaving e r → IsLeaving f r
  leaving_on r apart l = record {
    holds = holds_on r.id (kept_by r) apart l.holds;
    after = leads_on r.id r.after apart l.after;
  }

  -- what another worker has lives on
  pub worker_on : (u : Worker) → ((j : ℕ) → worker_id u ≡ Some j → j ≢ id) → WorkerLives e u → WorkerLives f u
  worker_on Idle apart lives = tt
  worker_on (Trying t) apart lives = (lives_on t (apart t.id refl) lives.0, lives.1)
  worker_on (Wanting t wanted) apart lives = (lives_on t (apart t.id refl) lives.0, lives.1, lives.2)
  worker_on (WantingNumbers t left) apart lives = (lives_on t (apart t.id refl) lives.0, lives.1)
  worker_on (Ready d) apart lives = lives_on (txn_of d) (apart d.id refl) lives
  worker_on (Blocked t) apart lives = lives_on t (apart t.id refl) lives
  worker_on (Failing t) apart lives = lives_on t (apart t.id refl) lives
  worker_on (Leaving r after) apart lives = leaving_on r (apart r.id refl) lives
  worker_on (PutOff p) apart lives = lives_on (again_of p) (apart p.id refl) lives
  worker_on (Refusing p) apart lives = lives_on (again_of p) (apart p.id refl) lives

below : (i j n : ℕ) → Some i ≡ Some j → i < n → j < n
below i j n is h = let same : i ≡ j = cc in subst (λ m. m < n) same h

-- the number of a worker's call is below the next one
pub worker_known : (e : EngineValue) (u : Worker) (j : ℕ) → worker_id u ≡ Some j → WorkerLives e u → j < e.book.next_id
worker_known e Idle j is lives = cc
worker_known e (Trying t) j is lives = below t.id j e.book.next_id is lives.0.holds.known
worker_known e (Wanting t wanted) j is lives = below t.id j e.book.next_id is lives.0.holds.known
worker_known e (WantingNumbers t left) j is lives = below t.id j e.book.next_id is lives.0.holds.known
worker_known e (Ready d) j is lives = below d.id j e.book.next_id is lives.holds.known
worker_known e (Blocked t) j is lives = below t.id j e.book.next_id is lives.holds.known
worker_known e (Failing t) j is lives = below t.id j e.book.next_id is lives.holds.known
worker_known e (Leaving r after) j is lives = below r.id j e.book.next_id is lives.holds.known
worker_known e (PutOff p) j is lives = below p.id j e.book.next_id is lives.holds.known
worker_known e (Refusing p) j is lives = below p.id j e.book.next_id is lives.holds.known
