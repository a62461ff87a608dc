-- What the answer of a host finds, as far as a draft knows.
use Rattle.std.proofs.Common.{◌≡◌, ◌%◌, ◌∷◌, ℕ, true, false, cond, List, [], Option, Some, None, length, option_map}
use Rattle.std.proofs.Common.{sym, ◌∙◌, ap, subst}
use Rattle.std.specs.Arc.{arc_value}
use Rattle.std.specs.Cmp.{unsigned_Decides}
use Rattle.std.specs.FinMap.{get}
use Rattle.std.specs.Int.{w64, from_be_bytes}
use Rattle.std.specs.List.{AllByRecursion}
use Rattle.nfs_machine.specs.Bytes.{same_bytes}
use Rattle.nfs_machine.specs.Exports.{LivingExport}
use Rattle.nfs_machine.specs.Grants.{grant_cookie}
use Rattle.nfs_machine.specs.WellFormed.{WellFormed}
use Rattle.nlm_ranges.specs.Buckets.{BucketValue, IsBucket, bucket_count}
use Rattle.nfs_objects.specs.Asks.{Lacks}
use Rattle.nfs_objects.specs.Calls.{locks_at}
use Rattle.nfs_objects.specs.Knows.{Knows, Possible}
use Rattle.nfs_objects.specs.Stands.{IsPlaced, StoreMeaning, bucket_at, bucket_there}
use Rattle.nfs_objects.specs.Store.{Store, with_writes}
use Rattle.nfs_objects.specs.Values.{DraftValue, known_at}
use Rattle.nfs_objects.specs.declared.address.Addr.{Addr}
use Rattle.nfs_objects.specs.declared.address.Addr.TheVariants as addresses
use Rattle.nfs_objects.specs.declared.change.Missing.{Missing}
use Rattle.nfs_inodes.proofs.BucketPutLemmas.{bucket-stands}
use Rattle.nfs_inodes.proofs.LocksPlaceLemmas.{locks-stop-behind}
use Rattle.nfs_inodes.specs.Stops.{StopsAt}
use Rattle.nlm_daemon.proofs.AnsweredGrantLemmas.{NoGrant, all-has, its-host, no-number, none-answered, other-host}
use Rattle.nlm_daemon.proofs.AnsweredGrantLemmas.{pending-none}
use Rattle.nlm_daemon.proofs.AnsweredGrantLemmas.{pending-now}
use Rattle.nlm_daemon.proofs.BucketFilesLemmas.{placed-lives}
use Rattle.nlm_daemon.specs.Granted.{FindsGrant, HasGrant, IsPendingNow, grant_of, grant_places}
use Rattle.nlm_daemon.specs.declared.granting.FoundGrant.{FoundGrant}

module _ (d : DraftValue) (cookie : List ℕ) where
  abbrev pub Finds : Option FoundGrant → Type 0
  Finds found = Knows d (λ k. WellFormed k.state → FindsGrant k.state d.ctx.host cookie found)

  pub finds-no_number : (length cookie ≡ 8 → ⊥) → Finds None
  finds-no_number other s k w formed = no-number k.state d.ctx.host cookie other

  module _ (number : ℕ) (eight : length cookie ≡ 8) (is : number ≡ from_be_bytes w64 cookie)
      (same : grant_cookie number ≡ cookie) where
    -- where a grant with this number is looked for
    abbrev looked : List Addr
    looked = addresses.Exports ∷ grant_places cookie

    places-are : grant_places cookie ≡ locks_at number
    places-are =
        ap (λ b. cond b (locks_at (from_be_bytes w64 cookie)) []) ((unsigned_Decides (length cookie) 8).1 eight)
        ∙ ap locks_at (sym is)

    pub grant-stops : (index : ℕ) (halt : Missing) → index ≡ number % bucket_count
        → Lacks d (addresses.Locks index) halt →
        StopsAt d looked halt
    grant-stops index halt index-is lacks =
        subst (λ l. StopsAt d (addresses.Exports ∷ l) halt) (sym places-are)
        (locks-stop-behind d number index halt index-is lacks)

    module _ (exports : List LivingExport) (lists : Knows d (λ k. k.state.exports ≡ exports)) (index : ℕ)
        (index-is : index ≡ number % bucket_count) (b : BucketValue)
        (known : option_map bucket_at (known_at d (addresses.Locks index)) ≡ Some b) where
      there : (s : Store) (k : StoreMeaning) → Possible d s k → bucket_there (with_writes s d.writes) index ≡ b
      there s k w = bucket-stands d index b known s w.fits

      pub finds-none : NoGrant exports number b.files → Finds None
      finds-none none s k w formed =
          none-answered k.state d.ctx.host cookie
          (ap (get k.state.granted) (sym is)
          ∙ pending-none (with_writes s d.writes) k.state w.stands.locks index b (there s k w) formed.locks number
          (sym index-is) (subst (λ es. NoGrant es number b.files) (sym (lists s k w)) none))

      module _ (bucket : IsBucket b) (pending : FoundGrant)
          (has : HasGrant exports b.files number pending.file (arc_value pending.request)) where
        now : (s : Store) (k : StoreMeaning) → Possible d s k →
            (get k.state.granted number ≡ Some (grant_of pending)) × IsPendingNow k.state pending
        now s k w =
            pending-now (with_writes s d.writes) k.state w.stands.locks index b (there s k w) bucket
            (λ f listed lives. placed-lives (with_writes s d.writes) k w.stands index f
            (all-has (IsPlaced (with_writes s d.writes) index) b.files f
            (subst (λ (x : BucketValue). AllByRecursion (IsPlaced (with_writes s d.writes) index) x.files) (there s k w)
            (w.stands.locks.placed index)) listed) lives)
            number pending
            (subst (λ es. HasGrant es b.files number pending.file (arc_value pending.request)) (sym (lists s k w)) has)

        pub finds-other : same_bytes (arc_value pending.request).host d.ctx.host ≡ false → Finds None
        finds-other other s k w formed =
            other-host k.state d.ctx.host cookie (grant_of pending) (ap (get k.state.granted) (sym is) ∙ (now s k w).0)
            other

        pub finds-it : same_bytes (arc_value pending.request).host d.ctx.host ≡ true → Finds (Some pending)
        finds-it own s k w formed = (
          its-host k.state d.ctx.host cookie (grant_of pending) (ap (get k.state.granted) (sym is) ∙ (now s k w).0) own
              (ap grant_cookie (sym is) ∙ same),
          (now s k w).1,
        )
