-- How a procedure halts that asked what a handle names.
use Rattle.std.proofs.Common.{◌≡◌, ℕ, List, [], ◌∷◌, ◌++◌, Result, Ok, Err, IfOk, inl, inr, sym, subst}
use Rattle.nfs_wire.specs.declared.status.NfsStatus.{NfsStatus}
use Rattle.nfs_machine.specs.declared.calls.Call.{Call}
use Rattle.nfs_objects.proofs.KnowsLemmas.{Covers, among-alone, among-next, covers-among, covers-both, names-exports}
use Rattle.nfs_objects.proofs.KnowsLemmas.{names-objects}
use Rattle.nfs_objects.proofs.KnowsLemmas.{stops-wider, stops-within}
use Rattle.nfs_objects.specs.Asks.{IsThere}
use Rattle.nfs_objects.specs.Attempt.{EndsCall, StopsCall}
use Rattle.nfs_objects.specs.Calls.{IsAmong, addresses_of, handles_of, named_by, new_numbers, objects_at}
use Rattle.nfs_objects.specs.Knows.{Knows, ShowsExport}
use Rattle.nfs_objects.specs.Values.{DraftValue, ViewValue}
use Rattle.nfs_objects.specs.declared.address.Addr.{Addr}
use Rattle.nfs_objects.specs.declared.address.Addr.TheVariants as addresses
use Rattle.nfs_objects.specs.declared.change.Missing.{Missing}
use Rattle.nfs_inodes.specs.Known.{HasNumber, Means}
use Rattle.nfs_inodes.specs.Stops.{StopsAt, StopsMaking, brought_by}
use Rattle.nfs_inodes.specs.declared.found.Known.{Known}
use Rattle.nfs_objects.specs.Begins.{Begins}

module _ (d : DraftValue) (call : Call) (halt : Missing) (begins : Begins call d) where
  pub halting : StopsCall d.modes (named_by call d.view) (new_numbers call d.view) d.view halt →
      EndsCall call d.ctx d.view (Err halt)
  halting stops =
      subst (λ modes. StopsCall modes (named_by call d.view) (new_numbers call d.view) d.view halt) begins.modes stops

  -- it asks for addresses that the call names, or where something stands
  pub asking : (few : List Addr) → Covers (named_by call d.view) d.view few → StopsAt d few halt →
      EndsCall call d.ctx d.view (Err halt)
  asking few covers stops =
      halting (stops-wider d.modes few (named_by call d.view) (new_numbers call d.view) d.view halt covers stops)

  pub reading : (x : Known) → IsThere d.view (addresses.Inode x.number) →
      StopsAt d (addresses_of d.view x.number) halt → EndsCall call d.ctx d.view (Err halt)
  reading x lives stops = asking (addresses_of d.view x.number) (inr lives, tt) stops

  pub reading-exports : StopsAt d (addresses.Exports ∷ []) halt → EndsCall call d.ctx d.view (Err halt)
  reading-exports stops = asking (addresses.Exports ∷ []) (inl (names-exports call d.view), tt) stops

  -- a handle of the call
  module _ (handle bytes : List ℕ) (same : bytes ≡ handle)
      (names : (a : Addr) → IsAmong (objects_at d.view (handle ∷ [])) a →
      IsAmong (objects_at d.view (handles_of call)) a) where
    brings : Covers (named_by call d.view) d.view (brought_by d.view bytes)
    brings =
        subst (λ h. Covers (named_by call d.view) d.view (brought_by d.view h)) (sym same)
        (covers-among (brought_by d.view handle) (named_by call d.view) d.view among)
      where
        among : (a : Addr) → IsAmong (brought_by d.view handle) a → IsAmong (named_by call d.view) a
        among a (inl exports) = subst (λ b. IsAmong (named_by call d.view) b) exports (names-exports call d.view)
        among a (inr objects) = names-objects call d.view a (names a objects)

    naming-any : StopsAt d (brought_by d.view bytes) halt → EndsCall call d.ctx d.view (Err halt)
    naming-any stops = asking (brought_by d.view bytes) brings stops

    making-any : (added : List Addr) → ((a : Addr) → IsAmong added a → IsAmong (named_by call d.view) a) →
        new_numbers call d.view ≡ 1 → StopsMaking d (brought_by d.view bytes ++ added) halt →
        EndsCall call d.ctx d.view (Err halt)
    making-any added adds one stops =
        halting (subst (λ n. StopsCall d.modes (named_by call d.view) n d.view halt) (sym one)
        (stops-within d.modes (brought_by d.view bytes ++ added) (named_by call d.view) 1 d.view halt
        (covers-both (named_by call d.view) d.view (brought_by d.view bytes) added brings
        (covers-among added (named_by call d.view) d.view adds)) stops))

  first-names : (handle : List ℕ) (others : List (List ℕ)) → handles_of call ≡ handle ∷ others → (a : Addr) →
      IsAmong (objects_at d.view (handle ∷ [])) a → IsAmong (objects_at d.view (handles_of call)) a
  first-names handle others are a among =
      subst (λ hs. IsAmong (objects_at d.view hs) a) (sym are) (among-alone d.view handle others a among)

  second-names : (first handle : List ℕ) → handles_of call ≡ first ∷ handle ∷ [] → (a : Addr) →
      IsAmong (objects_at d.view (handle ∷ [])) a → IsAmong (objects_at d.view (handles_of call)) a
  second-names first handle are a among =
      subst (λ hs. IsAmong (objects_at d.view hs) a) (sym are) (among-next d.view first (handle ∷ []) a among)

  -- its only one
  pub naming : (handle bytes : List ℕ) → bytes ≡ handle → handles_of call ≡ handle ∷ [] →
      StopsAt d (brought_by d.view bytes) halt → EndsCall call d.ctx d.view (Err halt)
  naming handle bytes same are = naming-any handle bytes same (first-names handle [] are)

  -- which makes an object there, under a name that it adds
  pub making : (handle bytes : List ℕ) → bytes ≡ handle → handles_of call ≡ handle ∷ [] → (added : List Addr) →
      ((a : Addr) → IsAmong added a → IsAmong (named_by call d.view) a) → new_numbers call d.view ≡ 1 →
      StopsMaking d (brought_by d.view bytes ++ added) halt → EndsCall call d.ctx d.view (Err halt)
  making handle bytes same are = making-any handle bytes same (first-names handle [] are)

  -- of two
  pub naming-first : (handle second bytes : List ℕ) → bytes ≡ handle → handles_of call ≡ handle ∷ second ∷ [] →
      StopsAt d (brought_by d.view bytes) halt → EndsCall call d.ctx d.view (Err halt)
  naming-first handle second bytes same are =
      naming-any handle bytes same (first-names handle (second ∷ []) are)

  pub naming-second : (first handle bytes : List ℕ) → bytes ≡ handle → handles_of call ≡ first ∷ handle ∷ [] →
      StopsAt d (brought_by d.view bytes) halt → EndsCall call d.ctx d.view (Err halt)
  naming-second first handle bytes same are = naming-any handle bytes same (second-names first handle are)

pub means-as : (d : DraftValue) (handle bytes : List ℕ) (found known : Result Known NfsStatus) → bytes ≡ handle
    → found ≡ known → Knows d (Means d.ctx bytes found)
    → Knows d (Means d.ctx handle known)
means-as d handle bytes found known same is means =
    subst (λ h. Knows d (Means d.ctx h known)) same (subst (λ f. Knows d (Means d.ctx bytes f)) is means)

pub number-as : (handle bytes : List ℕ) (found : Result Known NfsStatus) (x : Known) → bytes ≡ handle
    → found ≡ Ok x → IfOk found (λ (y : Known). HasNumber bytes y.number)
    → HasNumber handle x.number
number-as handle bytes found x same is has =
    subst (λ h. HasNumber h x.number) same (subst (λ f. IfOk f (λ (y : Known). HasNumber bytes y.number)) is has)

pub lives-as : (view : ViewValue) (found : Result Known NfsStatus) (x : Known) → found ≡ Ok x
    → IfOk found (λ y. IsThere view (addresses.Inode y.number))
    → IsThere view (addresses.Inode x.number)
lives-as view found x is lives = subst (λ f. IfOk f (λ (y : Known). IsThere view (addresses.Inode y.number))) is lives

pub exported-as : (d : DraftValue) (found : Result Known NfsStatus) (x : Known) → found ≡ Ok x
    → IfOk found (λ y. ShowsExport d y.export) → ShowsExport d x.export
exported-as d found x is exported = subst (λ f. IfOk f (λ (y : Known). ShowsExport d y.export)) is exported
