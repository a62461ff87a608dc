-- A file goes with its locks: they are taken away first, and that changes nothing of what is left when it is gone.
use Rattle.std.proofs.Common.{◌≡◌, ◌==◌, ◌++◌, ◌∷◌, [], ℕ, Bool, true, false, not, cond, Option, Some, None, refl, sym}
use Rattle.std.proofs.Common.{◌∙◌, ap, inl, is_some, Result, Ok, Err}
use Rattle.std.specs.Prelude.{MatchResult}
use Rattle.std.specs.FinMap.{FinMap, get, nat_cmp-IsAntisymmetric, remove, same_map}
use Rattle.std.specs.Option.{option_map_or}
use Rattle.std.specs.Cmp.{nat_cmp_total}
use Rattle.std.specs.Ordering.{nat_cmp}
use Rattle.nfs_machine.proofs.MapChangeLemmas.{differs-remove}
use Rattle.nfs_machine.proofs.FileMapLemmas.{get-grants_but}
use Rattle.nfs_machine.specs.FileLists.{grants_but}
use Rattle.nfs_machine.specs.State.{PendingGrant}
use Rattle.nfs_objects.proofs.KnowsLemmas.{among-behind, covers-among, stops-wider}
use Rattle.nfs_objects.proofs.PromiseLemmas.{turns-both}
use Rattle.nfs_objects.specs.Asks.{Lacks}
use Rattle.nfs_objects.specs.Calls.{addresses_of, locks_at}
use Rattle.nfs_objects.specs.Edits.{freed}
use Rattle.nfs_objects.specs.Knows.{Turns}
use Rattle.nfs_objects.specs.Stands.{StoreMeaning}
use Rattle.nfs_objects.specs.Values.{DraftValue}
use Rattle.nfs_objects.specs.declared.address.Addr.TheVariants as addresses
use Rattle.nfs_objects.specs.declared.change.Missing.{Missing}
use Rattle.nfs_inodes.proofs.ReaderHaltLemmas.{lacking-stops}
use Rattle.nfs_inodes.proofs.PutObjectLemmas.{removed-turns, turns-as}
use Rattle.nfs_inodes.specs.Counts.{uncounted}
use Rattle.nfs_inodes.specs.Locks.{locks_freed}
use Rattle.nfs_inodes.specs.Makes.{removed}
use Rattle.nfs_inodes.specs.Stops.{StopsAt}

twice : {X : Type 0} (b : Bool) (o : Option X) → cond b None (cond b None o) ≡ cond b None o
twice true o = refl
twice false o = refl

removed-twice : {X : Type 0} (m : FinMap nat_cmp X) (n : ℕ) → remove (remove m n) n ≡ remove m n
removed-twice m n = same_map nat_cmp_total nat_cmp-IsAntisymmetric _ _ (λ q.
    differs-remove (remove m n) n q ∙ ap (λ o. cond (q == n) None o) (differs-remove m n q)
    ∙ twice (q == n) (get m q) ∙ sym (differs-remove m n q))

module _ (n : ℕ) where
  goes : PendingGrant → Bool
  goes g = g.file == n

  abbrev left : Option PendingGrant → Option PendingGrant
  left o = cond (not (option_map_or goes o false)) o None

  left-twice : (o : Option PendingGrant) → left (left o) ≡ left o
  left-twice None = refl
  left-twice (Some g) =
      elim (goes g) as (λ b. goes g ≡ b → left (cond (not b) (Some g) None) ≡ cond (not b) (Some g) None) [
        | true ↦ λ is. refl
        | false ↦ λ is. ap (λ b. cond (not b) (Some g) None) is
      ] refl

  grants-twice : (granted : FinMap nat_cmp PendingGrant) → grants_but (λ (g : PendingGrant). g.file == n)
      (grants_but (λ (g : PendingGrant). g.file == n) granted) ≡ grants_but (λ (g : PendingGrant). g.file == n) granted
  unfolding goes
  grants-twice granted = same_map nat_cmp_total nat_cmp-IsAntisymmetric _ _ (λ q.
      get-grants_but (λ (g : PendingGrant). g.file == n) (grants_but (λ (g : PendingGrant). g.file == n) granted) q
      ∙ ap left (get-grants_but (λ (g : PendingGrant). g.file == n) granted q)
      ∙ left-twice (get granted q)
      ∙ sym (get-grants_but (λ (g : PendingGrant). g.file == n) granted q))

  freed-locked : (k : StoreMeaning) → freed (locks_freed n k) n ≡ freed k n
  freed-locked k = λ i. record (freed k n) {
    state = record ((freed k n).state) {
      locks = removed-twice k.state.locks n i;
      shares = removed-twice k.state.shares n i;
      waiting = removed-twice k.state.waiting n i;
      granted = grants-twice k.state.granted i;
    };
  }

  pub forgotten-removed : (d mid forgot new : DraftValue) → Turns d mid (uncounted n)
      → Turns mid forgot (locks_freed n) →
      Turns forgot new (λ k. freed k n) → Turns d new (removed n)
  forgotten-removed d mid forgot new counts forgets frees =
      removed-turns d mid new n counts
      (turns-as mid new (λ k. freed (locks_freed n k) n) (λ k. freed k n) (λ s k fits stands. freed-locked k)
      (turns-both mid forgot new (locks_freed n) (λ k. freed k n) forgets frees))

-- ---- halts where locks are taken away
pub forget-stops : (d : DraftValue) (n : ℕ) (halt : Missing) → StopsAt d (locks_at n) halt →
    StopsAt d (addresses_of d.view n ++ locks_at n) halt
forget-stops d n halt stops =
    stops-wider d.modes (locks_at n) (addresses_of d.view n ++ locks_at n) 0 d.view halt
    (covers-among (locks_at n) (addresses_of d.view n ++ locks_at n) d.view
    (λ a among. among-behind (addresses_of d.view n) (locks_at n) a among)) stops

pub forget-result : {A : Type 0} (d : DraftValue) (n : ℕ) (P : A → Type 0) (r : Result A Missing) →
    MatchResult r P (StopsAt d (locks_at n)) → MatchResult r P (StopsAt d (addresses_of d.view n ++ locks_at n))
forget-result d n P (Ok x) does = does
forget-result d n P (Err halt) stops = forget-stops d n halt stops

pub inode-lacked : (d : DraftValue) (n : ℕ) (halt : Missing) → Lacks d (addresses.Inode n) halt →
    StopsAt d (addresses_of d.view n ++ locks_at n) halt
inode-lacked d n halt lacks =
    stops-wider d.modes (addresses.Inode n ∷ []) (addresses_of d.view n ++ locks_at n) 0 d.view halt
    (inl (inl refl), tt) (lacking-stops d (addresses.Inode n) halt lacks)

-- what is none by one look is none by another that finds the same
pub none-where : {X : Type 0} {a : Option X} (b : Option X) → a ≡ b → is_some b ≡ false → a ≡ None
none-where None same is = same
none-where (Some x) same is = cc
