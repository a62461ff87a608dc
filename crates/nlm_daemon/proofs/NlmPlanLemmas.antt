-- What a plan of NLM wants next may be asked for.
use Rattle.std.proofs.Common.{◌≡◌, ◌++◌, ◌∷◌, ◌∙◌, ℕ, List, [], Option, Some, None, cond, inl, inr, refl, sym, ap}
use Rattle.std.proofs.Common.{option_map, slice_get, subst}
use Rattle.std.specs.Cmp.{unsigned_Decides}
use Rattle.std.specs.Int.{from_be_bytes, w64}
use Rattle.std.specs.Option.{option_and_then}
use Rattle.std.specs.Prelude.{◌%◌, IfSome, length}
use Rattle.side_wire.specs.declared.nlm.NlmCall.{NlmCall}
use Rattle.side_wire.specs.declared.nlm.NlmCall.TheVariants as nlm
use Rattle.side_wire.specs.declared.nlm.NlmResult.{NlmResult}
use Rattle.nfs_machine.specs.Handles.{handle_of}
use Rattle.nfs_machine.specs.declared.calls.Call.{Call}
use Rattle.nfs_machine.specs.declared.calls.Call.TheVariants as calls
use Rattle.nfs_machine.specs.declared.context.Ctx.{Ctx}
use Rattle.nfs_machine.specs.declared.handle.Handle.{Handle}
use Rattle.nlm_ranges.specs.Buckets.{bucket_count}
use Rattle.nfs_objects.proofs.KnowsLemmas.{among-behind, among-front}
use Rattle.nfs_objects.proofs.SeenLemmas.{unknown-unseen}
use Rattle.side_wire.specs.Handles.{nlm_handles}
use Rattle.nfs_objects.specs.Calls.{IsAmong, addresses_of, locks_at, locks_named, locks_of, named_by}
use Rattle.nfs_objects.specs.Calls.{new_numbers, objects_at, usages_of}
use Rattle.nfs_objects.specs.Modes.{held_mode, modes_of}
use Rattle.nfs_objects.specs.Values.{DraftValue, ViewValue, known_at, new_draft}
use Rattle.nfs_objects.specs.declared.address.Addr.{Addr}
use Rattle.nfs_objects.specs.declared.address.Addr.TheVariants as addresses
use Rattle.nfs_objects.specs.declared.modes.Mode.{Mode}
use Rattle.nfs_inodes.specs.Wants.{IsWanted}
use Rattle.nfs_inodes.specs.declared.wishes.Want.{Want}
use Rattle.nlm_daemon.specs.Plans.{MayGoOn, MayWant, file_named}
use Rattle.nlm_daemon.specs.declared.plan.Plan.{Plan}

-- an address that the call names, where the draft lacks it
named-wanted : (call : NlmCall) (d : DraftValue) (a : Addr) → IsAmong (named_by (calls.Nlm call) d.view) a →
    (w : Addr × Mode) → (known_at d a ≡ None) × (w ≡ (a, held_mode d.modes d.view a)) → MayWant call d w
named-wanted call d a named w lacked = subst (MayWant call d) (sym lacked.1)
    (record { unseen = unknown-unseen d a lacked.0; mode = refl; bounded = inl named })

pub exports-wanted : (call : NlmCall) (d : DraftValue) (w : Addr × Mode) →
    (known_at d addresses.Exports ≡ None) ×
    (w ≡ (addresses.Exports, held_mode d.modes d.view addresses.Exports)) → MayWant call d w
exports-wanted call d = named-wanted call d addresses.Exports (inl refl)

-- ---- what the first of these handles names
abbrev Names : List (List ℕ) → ℕ → Type 0
Names handles n = Some n ≡ option_map (λ (h : Handle). h.fileid) (option_and_then handle_of (slice_get handles 0))

first-named : (view : ViewValue) (handles : List (List ℕ)) (n : ℕ) → Names handles n →
    IsAmong (objects_at view handles) (addresses.Inode n)
first-named view [] n is = absurd (let no : Some n ≡ None = is in cc)
first-named view (first ∷ others) n is =
    elim (handle_of first) as (λ (o : Option Handle). Some n ≡ option_map (λ (h : Handle). h.fileid) o →
    IsAmong (elim o [
      | None ↦ objects_at view others
      | Some h ↦ addresses_of view h.fileid ++ usages_of h.export 64 ++ objects_at view others
    ]) (addresses.Inode n)) [
      | None ↦ λ e. absurd (let no : Some n ≡ None = e in cc)
      | Some h ↦ λ e. (let same : n ≡ h.fileid = cc in inl (ap addresses.Inode (sym same)))
    ] is

first-locks : (handles : List (List ℕ)) (n : ℕ) → Names handles n →
    IsAmong (locks_of handles) (addresses.Locks (n % bucket_count))
first-locks [] n is = absurd (let no : Some n ≡ None = is in cc)
first-locks (first ∷ others) n is =
    elim (handle_of first) as (λ (o : Option Handle). Some n ≡ option_map (λ (h : Handle). h.fileid) o →
    IsAmong (elim o [ None ↦ [] | Some h ↦ locks_at h.fileid ] ++ locks_of others)
    (addresses.Locks (n % bucket_count))) [
      | None ↦ λ e. absurd (let no : Some n ≡ None = e in cc)
      | Some h ↦ λ e.
          (let same : n ≡ h.fileid = cc in inl (ap (λ q. addresses.Locks (q % bucket_count)) (sym same)))
    ] is

pub file-wanted : (call : NlmCall) (d : DraftValue) (n : ℕ) → Some n ≡ file_named call → (w : Addr × Mode) →
    (known_at d (addresses.Inode n) ≡ None) ×
    (w ≡ (addresses.Inode n, held_mode d.modes d.view (addresses.Inode n))) → MayWant call d w
file-wanted call d n is = named-wanted call d (addresses.Inode n)
    (inr (among-front (objects_at d.view (nlm_handles call)) (locks_named call) (addresses.Inode n)
    (first-named d.view (nlm_handles call) n is)))

-- a call that names a file names what it has
file-locks : (call : NlmCall) (n : ℕ) → Some n ≡ file_named call →
    IsAmong (locks_named call) (addresses.Locks (n % bucket_count))
file-locks (nlm.Test a) n is = first-locks (a.lock.file ∷ []) n is
file-locks (nlm.Lock a) n is = first-locks (a.lock.file ∷ []) n is
file-locks (nlm.Cancel a) n is = first-locks (a.lock.file ∷ []) n is
file-locks (nlm.Unlock a) n is = first-locks (a.lock.file ∷ []) n is
file-locks (nlm.TestMsg a) n is = first-locks (a.lock.file ∷ []) n is
file-locks (nlm.LockMsg a) n is = first-locks (a.lock.file ∷ []) n is
file-locks (nlm.CancelMsg a) n is = first-locks (a.lock.file ∷ []) n is
file-locks (nlm.UnlockMsg a) n is = first-locks (a.lock.file ∷ []) n is
file-locks (nlm.Share a) n is = first-locks (a.share.file ∷ []) n is
file-locks (nlm.Unshare a) n is = first-locks (a.share.file ∷ []) n is
file-locks (nlm.NmLock a) n is = first-locks (a.lock.file ∷ []) n is
file-locks nlm.Null n is = absurd (let no : Some n ≡ None = is in cc)
file-locks (nlm.Granted a) n is = absurd (let no : Some n ≡ None = is in cc)
file-locks (nlm.GrantedMsg a) n is = absurd (let no : Some n ≡ None = is in cc)
file-locks (nlm.TestRes r) n is = absurd (let no : Some n ≡ None = is in cc)
file-locks (nlm.LockRes r) n is = absurd (let no : Some n ≡ None = is in cc)
file-locks (nlm.CancelRes r) n is = absurd (let no : Some n ≡ None = is in cc)
file-locks (nlm.UnlockRes r) n is = absurd (let no : Some n ≡ None = is in cc)
file-locks (nlm.GrantedRes r) n is = absurd (let no : Some n ≡ None = is in cc)
file-locks (nlm.FreeAll a) n is = absurd (let no : Some n ≡ None = is in cc)

-- ---- a bucket that the call names
bucket-wanted : (call : NlmCall) (d : DraftValue) (index n : ℕ) → index ≡ n % bucket_count →
    IsAmong (locks_named call) (addresses.Locks (n % bucket_count)) → (w : Addr × Mode) →
    (known_at d (addresses.Locks index) ≡ None) ×
    (w ≡ (addresses.Locks index, held_mode d.modes d.view (addresses.Locks index))) → MayWant call d w
bucket-wanted call d index n is named = named-wanted call d (addresses.Locks index)
    (inr (among-behind (objects_at d.view (nlm_handles call)) (locks_named call) (addresses.Locks index)
    (subst (λ i. IsAmong (locks_named call) (addresses.Locks i)) (sym is) named)))

pub locks-wanted : (call : NlmCall) (d : DraftValue) (n : ℕ) → Some n ≡ file_named call → (index : ℕ) →
    index ≡ n % bucket_count → (w : Addr × Mode) →
    (known_at d (addresses.Locks index) ≡ None) ×
    (w ≡ (addresses.Locks index, held_mode d.modes d.view (addresses.Locks index))) → MayWant call d w
locks-wanted call d n named index is = bucket-wanted call d index n is (file-locks call n named)

-- that of the grant that is answered
pub grant-wanted : (r : NlmResult) (d : DraftValue) (n : ℕ) → length r.cookie ≡ 8 → n ≡ from_be_bytes w64 r.cookie →
    (index : ℕ) → index ≡ n % bucket_count → (w : Addr × Mode) →
    (known_at d (addresses.Locks index) ≡ None) ×
    (w ≡ (addresses.Locks index, held_mode d.modes d.view (addresses.Locks index))) →
    MayWant (nlm.GrantedRes r) d w
grant-wanted r d n eight is index index-is =
    bucket-wanted (nlm.GrantedRes r) d index n index-is
    (subst (λ l. IsAmong l (addresses.Locks (n % bucket_count))) (sym places-are) (inl refl))
  where
    places-are : locks_named (nlm.GrantedRes r) ≡ locks_at n
    places-are =
        ap (λ b. cond b (locks_at (from_be_bytes w64 r.cookie)) []) ((unsigned_Decides (length r.cookie) 8).1 eight)
        ∙ ap locks_at (sym is)

-- ---- the draft of a call
module _ (call : Call) (nlm-call : NlmCall) (ctx : Ctx) (view : ViewValue) (d : DraftValue)
    (is : call ≡ calls.Nlm nlm-call) (made : d ≡ new_draft ctx view (modes_of call)) where
  pub begun : d.writes ≡ []
  begun = subst (λ (e : DraftValue). e.writes ≡ []) (sym made) refl

  abbrev May : Call → DraftValue → Want → Type 0
  May c e want = IsWanted e.modes (named_by c e.view) (new_numbers c e.view) e.view want

  pub goes-on : (next : Option (Want × Plan)) → MayGoOn nlm-call d next →
      IfSome next
      (λ (n : Want × Plan). IsWanted (modes_of call) (named_by call view) (new_numbers call view) view n.0)
  goes-on None may = tt
  goes-on (Some n) may = subst (λ e. May call e n.0) made (subst (λ c. May c d n.0) (sym is) may)
