-- What a step of one call leaves of the others: they live on, and still hold what they held.
use Rattle.std.proofs.Common.{◌≡◌, ◌≢◌, ℕ, ◌<◌, ◌%◌, Bool, true, false, cond}
use Rattle.std.proofs.Common.{List, [], ◌∷◌, Option, Some}
use Rattle.std.proofs.Common.{IsSome, option_map, refl, sym, ◌∙◌, ap, subst, arith}
use Rattle.std.specs.List.{AllByRecursion}
use Rattle.nfs_objects.proofs.SeenLemmas.{all-map, is_addr-refl}
use Rattle.nfs_objects.specs.Fits.{vacant}
use Rattle.nfs_objects.specs.Values.{Seen, is_addr, seen_at}
use Rattle.nfs_objects.specs.declared.address.Addr.{Addr}
use Rattle.nfs_objects.specs.declared.address.Addr.TheVariants.{Inode}
use Rattle.nfs_objects.specs.declared.modes.Mode.{Mode}
use Rattle.nfs_objects.specs.declared.object.Object.{Object}
use Rattle.nfs_objects.specs.declared.view.Reserved.{Reserved}
use Rattle.nfs_replies.specs.declared.origins.Origin.{Origin}
use Rattle.nfs_engine.specs.Book.{store_in}
use Rattle.nfs_engine.specs.Calls.{IsUnder, TxnValue}
use Rattle.nfs_engine.specs.Engine.{EngineValue, Holds, IsLeaving, IsRunning, KeepsOthers, LeadsTo, Lives}
use Rattle.nfs_engine.specs.Engine.{kept_by, mode_in, shard_among}
use Rattle.nfs_engine.specs.Releases.{ReleaseValue}
use Rattle.nfs_engine.specs.Repeats.{origin_of}
use Rattle.nfs_engine.specs.declared.release.Then.{Then}
use Rattle.nfs_engine.specs.declared.release.Then.TheVariants.{Aborted, Ended}

-- what was read still stands, where what is held does
still_stands : (es : List Seen) (old new : Addr → Option Object) →
    ((a : Addr) → IsSome (mode_in es a) → new a ≡ old a) →
    AllByRecursion (λ (e : Seen). old e.address ≡ e.object) es →
    AllByRecursion (λ (e : Seen). new e.address ≡ e.object) es
still_stands [] old new kept all = tt
still_stands (e ∷ es) old new kept all = (
  kept e.address (subst (λ t. IsSome (option_map (λ (x : Seen). x.mode) (cond t (Some e) (seen_at es e.address))))
      (sym (is_addr-refl e.address)) refl) ∙ all.0,
  still_stands es old new (λ a some. kept a (more (is_addr e.address a) (seen_at es a) some)) all.1,
)
  where
    more : (t : Bool) (x : Option Seen) → IsSome (option_map (λ (y : Seen). y.mode) x) →
        IsSome (option_map (λ (y : Seen). y.mode) (cond t (Some e) x))
    more true x some = refl
    more false x some = some

module _ (id : ℕ) (old new : EngineValue) (k : KeepsOthers id old new) where
  running_on : (key j : ℕ) (o : Option Origin) → j ≢ id → IsRunning old key j o → IsRunning new key j o
  running_on key j o apart r = record {
    running = r.running;
    there = k.living key r.running (λ is. apart (sym r.same ∙ is)) r.there;
    same = r.same;
    came = r.came;
  }

  holds_on : (j : ℕ) (hold : Addr → Option Mode) → j ≢ id → Holds old j hold → Holds new j hold
  holds_on j hold apart h = record {
    exactly = λ a. k.holds a j apart ∙ h.exactly a;
    known = (let more = k.ids in let was = h.known in omega arith);
  }

  pub lives_on : (t : TxnValue) → t.id ≢ id → Lives old t → Lives new t
  lives_on t apart lives = record {
    fits = record {
      entries = still_stands t.view.entries (store_in old.book).at (store_in new.book).at
          (λ a some. k.objects a t.id apart (subst (λ (m : Option Mode). IsSome m) (sym (lives.holds.exactly a)) some))
          lives.fits.entries;
      reserved = all-map
          (λ (r : Reserved). (seen_at t.view.entries (Inode r.number) ≡ Some (vacant r)) ×
          ((store_in old.book).last r.number < r.generation))
          (λ (r : Reserved). (seen_at t.view.entries (Inode r.number) ≡ Some (vacant r)) ×
          ((store_in new.book).last r.number < r.generation))
          (λ r h. (
            h.0,
            subst (λ n. n < r.generation) (sym (k.lasts r.number t.id apart
                (subst (λ (m : Option Mode). IsSome m) (sym (lives.holds.exactly (Inode r.number) ∙
                ap (λ (x : Option Seen). option_map (λ (y : Seen). y.mode) x) h.0)) refl))) h.1,
          ))
          t.view.reserved lives.fits.reserved;
    };
    holds = holds_on t.id (mode_in t.view.entries) apart lives.holds;
    fresh = all-map (λ (r : Reserved). r.generation < (shard_among old.shards (r.number % 16)).next_generation)
        (λ (r : Reserved). r.generation < (shard_among new.shards (r.number % 16)).next_generation)
        (λ r f. (let more = k.generations (r.number % 16) in omega arith)) t.view.reserved lives.fresh;
    running = running_on t.key t.id (origin_of t.received t.call) apart lives.running;
    under = subst (λ s. IsUnder s t.ctx) (sym k.setting) lives.under;
  }

  leads_on : (j : ℕ) (t : Then) → j ≢ id → LeadsTo old j t → LeadsTo new j t
  leads_on j (Aborted p) apart l = (
    l.0,
    running_on p.key p.id (origin_of p.received p.call) (λ is. apart (sym l.0 ∙ is)) l.1,
    subst (λ s. IsUnder s p.ctx) (sym k.setting) l.2,
  )
  leads_on j Ended apart l = tt

  pub leaving_on : (r : ReleaseValue) → r.id ≢ id → IsLeaving old r → IsLeaving new r
  leaving_on r apart l = record {
    holds = holds_on r.id (kept_by r) apart l.holds;
    after = leads_on r.id r.after apart l.after;
  }
