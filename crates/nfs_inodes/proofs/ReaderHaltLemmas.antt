-- How readers halt, as their callers see it.
use Rattle.std.proofs.Common.{◌≡◌, ℕ, List, [], ◌∷◌, Option, Some, None, Result, Err, IsSome, inl, inr, option_map}
use Rattle.std.proofs.Common.{refl, sym, ◌∙◌, ap, subst}
use Rattle.std.proofs.Common.{Ok, ◌⊎◌, ◌++◌}
use Rattle.std.specs.Prelude.{IfErr, MatchResult}
use Rattle.nfs_machine.specs.Handles.{handle_of}
use Rattle.nfs_machine.specs.declared.handle.Handle.{Handle}
use Rattle.nfs_objects.proofs.StandsInExportLemmas.{table-lives}
use Rattle.nfs_objects.proofs.KnowsLemmas.{among-first, covers-among, covers-both, lacks-stops, stops-wider}
use Rattle.nfs_objects.proofs.SeenLemmas.{unknown-unseen}
use Rattle.nfs_objects.specs.Asks.{Lacks, IsThere}
use Rattle.nfs_objects.specs.Attempt.{HaltsFirst, StopsCall, first_wanted_with, object_wanted, unless_seen}
use Rattle.nfs_objects.specs.Calls.{addresses_of}
use Rattle.nfs_objects.specs.Knows.{Turns}
use Rattle.nfs_objects.specs.Only.{AsksNothing}
use Rattle.nfs_objects.specs.Stands.{StoreMeaning}
use Rattle.nfs_objects.specs.Values.{DraftValue, Seen, ViewValue, known_at, seen_at, shown_at, written_at}
use Rattle.nfs_objects.specs.declared.address.Addr.{Addr}
use Rattle.nfs_objects.specs.declared.address.Addr.TheVariants as addresses
use Rattle.nfs_objects.specs.declared.change.Missing.{Missing}
use Rattle.nfs_objects.specs.declared.object.Object.{Object}
use Rattle.nfs_inodes.specs.Stops.{KnowsAt, ReadsAt, ReadsInode, StopsAt, StopsMaking, brought_by}

-- what a draft lacks is asked for
pub lacking-stops : (d : DraftValue) (a : Addr) (halt : Missing) → Lacks d a halt → StopsAt d (a ∷ []) halt
lacking-stops d a halt lacks = lacks-stops d (a ∷ []) 0 a halt lacks (inl (inl refl))

-- what is asked for with a changed draft might be asked for before
pub stops-before : (old new : DraftValue) (op : StoreMeaning → StoreMeaning) (asked : ViewValue
    → List Addr) (halt : Missing) →
    Turns old new op → StopsAt new (asked new.view) halt → StopsAt old (asked old.view) halt
stops-before old new op asked halt turns stops =
    subst (λ view. StopsCall old.modes (asked view) 0 view halt) turns.view
    (subst (λ modes. StopsCall modes (asked new.view) 0 new.view halt) turns.modes stops)

-- ---- what is asked for first
module _ (d : DraftValue) (a : Addr) where
  abbrev wanted : Option Seen → Option Addr
  wanted s = elim s [ None ↦ Some a | Some x ↦ None ]

  pub known-shown : d.writes ≡ [] → IsSome (known_at d a) → unless_seen d.view a ≡ None
  known-shown none some = by (seen_at d.view.entries a)
      (subst (λ ws. IsSome (written_at (shown_at d.view.entries a) ws a)) none some)
    where
      by : (s : Option Seen) → IsSome (option_map (λ (e : Seen). e.object) s) → wanted s ≡ None
      by None e = cc
      by (Some x) e = refl

  pub lacking-unseen : (halt : Missing) → Lacks d a halt → unless_seen d.view a ≡ Some a
  lacking-unseen halt lacks = ap wanted (unknown-unseen d a lacks.unknown)

pub known-first : (A : Type 0) (d : DraftValue) (a : Addr) (o : Option Object) (r : Result A Missing) → d.writes ≡ []
    → known_at d a ≡ Some o
    → HaltsFirst d.modes d.view (unless_seen d.view a) r
known-first A d a o r none known =
    subst (λ w. HaltsFirst {A = A} d.modes d.view w r)
    (sym (known-shown d a none (subst (λ x. IsSome x) (sym known) refl))) tt

pub lacking-first-at : (A : Type 0) (d : DraftValue) (a : Addr) (halt : Missing) → Lacks d a halt
    → HaltsFirst {A = A} d.modes d.view (unless_seen d.view a) (Err halt)
lacking-first-at A d a halt lacks = subst (λ w. HaltsFirst {A = A} d.modes d.view w (Err halt))
    (sym (lacking-unseen d a halt lacks)) lacks.asked

module _ (A : Type 0) (d : DraftValue) (bytes : List ℕ) where
  abbrev First : Result A Missing → Type 0
  First r = HaltsFirst {A = A} d.modes d.view (first_wanted_with d.view (bytes ∷ [])) r

  abbrev past : Option Addr → Option Addr
  past w = elim w [ Some a ↦ Some a | None ↦ object_wanted d.view (bytes ∷ []) ]

  pub exports-first : (halt : Missing) → Lacks d addresses.Exports halt → First (Err halt)
  exports-first halt lacks = subst (λ w. HaltsFirst {A = A} d.modes d.view (past w) (Err halt))
      (sym (lacking-unseen d addresses.Exports halt lacks)) lacks.asked

  pub exports-once : (halt : Missing) → Lacks d addresses.Exports halt
      → first_wanted_with d.view (bytes ∷ []) ≡ None → ⊥
  exports-once halt lacks none =
      let wants : first_wanted_with d.view (bytes ∷ []) ≡ Some addresses.Exports =
      ap past (lacking-unseen d addresses.Exports halt lacks) in cc

  module _ (none : d.writes ≡ []) (known : IsSome (known_at d addresses.Exports)) where
    wants : (o : Option Handle) → handle_of bytes ≡ o
        → first_wanted_with d.view (bytes ∷ []) ≡ elim o [
          | None ↦ None
          | Some h ↦ unless_seen d.view
              (addresses.Inode h.fileid)
        ]
    wants o is =
        ap past (known-shown d addresses.Exports none known)
        ∙ ap (λ (x : Option Handle). elim x [ None ↦ None | Some h ↦ unless_seen d.view (addresses.Inode h.fileid) ]) is

    pub bad-first : (r : Result A Missing) → handle_of bytes ≡ None → First r
    bad-first r is = subst (λ w. HaltsFirst {A = A} d.modes d.view w r) (sym (wants None is)) tt

    module _ (h : Handle) (is : handle_of bytes ≡ Some h) where
      pub object-first : (r : Result A Missing) → IsSome (known_at d (addresses.Inode h.fileid)) → First r
      object-first r some =
          subst (λ w. HaltsFirst {A = A} d.modes d.view w r)
          (sym (wants (Some h) is ∙ known-shown d (addresses.Inode h.fileid) none some)) tt

      pub lacking-first : (halt : Missing) → Lacks d (addresses.Inode h.fileid) halt → First (Err halt)
      lacking-first halt lacks =
          subst (λ w. HaltsFirst {A = A} d.modes d.view w (Err halt))
          (sym (wants (Some h) is ∙ lacking-unseen d (addresses.Inode h.fileid) halt lacks)) lacks.asked

      pub lacking-once : (halt : Missing) → Lacks d (addresses.Inode h.fileid) halt
          → first_wanted_with d.view (bytes ∷ []) ≡ None → ⊥
      lacking-once halt lacks nothing =
          let wanted-is : first_wanted_with d.view (bytes ∷ []) ≡ Some (addresses.Inode h.fileid) = wants (Some h) is
          ∙ lacking-unseen d (addresses.Inode h.fileid) halt lacks in cc

pub never-both : (o : Option (Option Object)) → o ≡ None → IsSome o → ⊥
never-both None none some = cc
never-both (Some x) none some = cc

-- what the draft knows it does not lack
pub known-never_lacking : {A : Type 0} (d : DraftValue) (a : Addr) (r : Result A Missing) → IsSome (known_at d a)
    → ReadsAt d a r → AsksNothing r
known-never_lacking d a (Ok x) known reads = tt
known-never_lacking d a (Err halt) known lacks = absurd (never-both (known_at d a) lacks.unknown known)

-- so it ends there
pub known-ends : {A : Type 0} (d : DraftValue) (a : Addr) (r : Result A Missing) → IsSome (known_at d a)
    → ReadsAt d a r → IfErr r (λ halt. ⊥)
known-ends d a (Ok x) known reads = tt
known-ends d a (Err halt) known lacks = never-both (known_at d a) lacks.unknown known

pub reads-at : {A : Type 0} (d : DraftValue) (n : ℕ) (r : Result A Missing) → IsSome (known_at d addresses.Exports)
    → ReadsInode d n r → ReadsAt d (addresses.Inode n) r
reads-at d n (Ok x) known reads = reads.object
reads-at d n (Err halt) known (inl lacks) = absurd (never-both (known_at d addresses.Exports) lacks.unknown known)
reads-at d n (Err halt) known (inr lacks) = lacks

pub known-never_asked : {A : Type 0} (d : DraftValue) (n : ℕ) (r : Result A Missing) → KnowsAt d n →
    ReadsInode d n r → AsksNothing r
known-never_asked d n r known reads = known-never_lacking d (addresses.Inode n) r known.object
    (reads-at d n r known.exports reads)

-- each store has exports, so each call may ask for them
pub exports-stop-at : (d : DraftValue) (asked : List Addr) (halt : Missing) →
    StopsAt d (addresses.Exports ∷ []) halt → StopsAt d asked halt
exports-stop-at d asked halt stops =
    stops-wider d.modes (addresses.Exports ∷ []) asked 0 d.view halt (inr (table-lives d.view), tt) stops

-- ---- a handle that the call brings
pub exports-stop : (d : DraftValue) (bytes : List ℕ) (halt : Missing) → StopsAt d (addresses.Exports ∷ []) halt →
    StopsAt d (brought_by d.view bytes) halt
exports-stop d bytes halt stops = exports-stop-at d (brought_by d.view bytes) halt stops

pub object-stops : (d : DraftValue) (bytes : List ℕ) (h : Handle) (halt : Missing) → handle_of bytes ≡ Some h →
    StopsAt d (addresses_of d.view h.fileid) halt → StopsAt d (brought_by d.view bytes) halt
object-stops d bytes h halt is stops =
    stops-wider d.modes (addresses_of d.view h.fileid) (brought_by d.view bytes) 0 d.view halt
    (covers-among (addresses_of d.view h.fileid) (brought_by d.view bytes) d.view
    (λ a among. inr (among-first d.view bytes [] h is a among))) stops

-- ---- what may be asked for whatever the call names
-- what is known, or stands in each store
pub there-stops : {A : Type 0} (d : DraftValue) (a : Addr) (P : A → Type 0) (r : Result A Missing) →
    IsSome (known_at d a) ⊎ IsThere d.view a → MatchResult r P (Lacks d a) → MatchResult r P (StopsAt d [])
there-stops d a P (Ok x) there is = is
there-stops d a P (Err halt) (inl known) lacks = absurd (never-both (known_at d a) lacks.unknown known)
there-stops d a P (Err halt) (inr there) lacks = lacks-stops d [] 0 a halt lacks (inr there)

-- an object that lives may be read by each call
pub lives-stops : (d : DraftValue) (n : ℕ) (halt : Missing) → IsThere d.view (addresses.Inode n) →
    StopsAt d (addresses_of d.view n) halt → StopsAt d [] halt
lives-stops d n halt lives stops = stops-wider d.modes (addresses_of d.view n) [] 0 d.view halt (inr lives, tt) stops

pub both-stop : (d : DraftValue) (n m : ℕ) (asked : List Addr) (halt : Missing) → IsThere d.view (addresses.Inode n) →
    IsThere d.view (addresses.Inode m) → StopsAt d (addresses_of d.view n ++ addresses_of d.view m) halt →
    StopsAt d asked halt
both-stop d n m asked halt first second stops =
    stops-wider d.modes (addresses_of d.view n ++ addresses_of d.view m) asked 0 d.view halt
    (covers-both asked d.view (addresses_of d.view n) (addresses_of d.view m) (inr first, tt) (inr second, tt)) stops

-- an object that the draft knows is not what it lacks
pub known-stops : (d : DraftValue) (n : ℕ) (halt : Missing) → IsSome (known_at d (addresses.Inode n)) →
    Lacks d addresses.Exports halt ⊎ Lacks d (addresses.Inode n) halt → StopsAt d [] halt
known-stops d n halt some (inl lacks) =
    lacks-stops d [] 0 addresses.Exports halt lacks (inr (table-lives d.view))
known-stops d n halt some (inr lacks) = absurd (never-both (known_at d (addresses.Inode n)) lacks.unknown some)

pub any-stops : (d : DraftValue) (asked : List Addr) (halt : Missing) → StopsAt d [] halt → StopsAt d asked halt
any-stops d asked halt stops = stops-wider d.modes [] asked 0 d.view halt tt stops

-- a call that makes an object may ask for what another may
pub makes-stops : (d : DraftValue) (asked : List Addr) (halt : Missing) → StopsAt d asked halt
    → StopsMaking d asked halt
makes-stops d asked halt stops =
    stops-wider d.modes asked asked 1 d.view halt (covers-among asked asked d.view (λ a among. among)) stops

-- how it halts, if it does
pub halts-only : {A : Type 0} (P : A → Type 0) (Q : Missing → Type 0) (r : Result A Missing) → MatchResult r P Q
    → IfErr r Q
halts-only P Q (Ok x) is = tt
halts-only P Q (Err halt) is = is

-- who halts so halts as others may who may ask for as much
pub halts-as : {A : Type 0} (P Q : Missing → Type 0) (r : Result A Missing) → ((halt : Missing) → P halt → Q halt)
    → IfErr r P →
    IfErr r Q
halts-as P Q (Ok x) on stops = tt
halts-as P Q (Err halt) on stops = on halt stops
