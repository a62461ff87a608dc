-- What calls of NLM name and want first, and how they halt.
use Rattle.std.proofs.Common.{◌≡◌, List, [], ◌∷◌, ◌++◌, Option, Some, None, Result, Ok, Err, inl, inr, option_map, refl}
use Rattle.std.proofs.Common.{sym, ap, subst}
use Rattle.std.proofs.Common.{◌∙◌, ℕ, true}
use Rattle.std.specs.Prelude.{MatchResult}
use Rattle.side_wire.specs.declared.nlm.CancelArguments.{CancelArguments}
use Rattle.side_wire.specs.declared.nlm.LockArguments.{LockArguments}
use Rattle.side_wire.specs.declared.nlm.NlmCall.{NlmCall}
use Rattle.side_wire.specs.declared.nlm.NlmCall.TheVariants as nlm
use Rattle.side_wire.specs.declared.nlm.ShareArguments.{ShareArguments}
use Rattle.side_wire.specs.declared.nlm.TestArguments.{TestArguments}
use Rattle.side_wire.specs.declared.nlm.UnlockArguments.{UnlockArguments}
use Rattle.nfs_machine.specs.Handles.{handle_of}
use Rattle.nfs_machine.specs.declared.calls.Call.{Call}
use Rattle.nfs_machine.specs.declared.calls.Call.TheVariants as calls
use Rattle.nfs_machine.specs.declared.context.Ctx.{Ctx}
use Rattle.nfs_machine.specs.declared.handle.Handle.{Handle}
use Rattle.nfs_objects.proofs.KnowsLemmas.{among-behind, among-front, covers-among, stops-wider}
use Rattle.nfs_objects.specs.Asks.{Lacks}
use Rattle.nfs_objects.specs.Attempt.{EndsCall, EndsFirst, HaltsFirst, first_wanted, first_wanted_with, unless_seen}
use Rattle.nfs_objects.specs.Begins.{Begins}
use Rattle.nfs_objects.specs.Calls.{IsAmong, locks_at, locks_of, named_by}
use Rattle.nfs_objects.specs.Modes.{modes_of}
use Rattle.nfs_objects.specs.Only.{AsksNothing}
use Rattle.nfs_objects.specs.Promise.{IsPromised}
use Rattle.nfs_objects.specs.Values.{ChangeValue, DraftValue, ModesValue, ViewValue, change_value, done_value}
use Rattle.nfs_objects.specs.declared.address.Addr.{Addr}
use Rattle.nfs_objects.specs.declared.address.Addr.TheVariants as addresses
use Rattle.nfs_objects.specs.declared.change.Change.{Change}
use Rattle.nfs_objects.specs.declared.change.Missing.{Missing}
use Rattle.nfs_objects.specs.declared.change.Missing.TheVariants as halts
use Rattle.nfs_objects.specs.declared.modes.Mode.TheVariants.{Exclusive}
use Rattle.nfs_inodes.proofs.NamedHaltLemmas.{asking}
use Rattle.nfs_inodes.proofs.ReaderHaltLemmas.{lacking-unseen}
use Rattle.nfs_inodes.specs.Known.{HasNumber}
use Rattle.nfs_inodes.specs.Stops.{StopsAt, brought_by}
use Rattle.nlm_daemon.specs.Answering.{canceling_call, granting_call, is_passed, locking_call, unlocking_call}
use Rattle.nlm_daemon.specs.Comes.{lock_places}
use Rattle.nlm_daemon.specs.declared.answering.Procedure.{Procedure}
use Rattle.nlm_daemon.specs.declared.answering.Procedure.TheVariants as procedures

-- a call with one handle, which changes what its file has
pub record IsOfFile (call : Call) (handle : List ℕ) : Type 0 where
  pub first : (view : ViewValue) → first_wanted call view ≡ first_wanted_with view (handle ∷ [])
  pub named : (view : ViewValue) → named_by call view ≡ lock_places view handle
  pub alone : (modes_of call).locks ≡ Exclusive

pub locking-of : (procedure : Procedure) (a : LockArguments) → IsOfFile (locking_call procedure a) a.lock.file
locking-of procedures.NmLock a = record { first = λ view. refl; named = λ view. refl; alone = refl }
locking-of procedures.LockMsg a = record { first = λ view. refl; named = λ view. refl; alone = refl }
locking-of procedures.Lock a = record { first = λ view. refl; named = λ view. refl; alone = refl }
locking-of procedures.Cancel a = record { first = λ view. refl; named = λ view. refl; alone = refl }
locking-of procedures.CancelMsg a = record { first = λ view. refl; named = λ view. refl; alone = refl }
locking-of procedures.Unlock a = record { first = λ view. refl; named = λ view. refl; alone = refl }
locking-of procedures.UnlockMsg a = record { first = λ view. refl; named = λ view. refl; alone = refl }
locking-of procedures.Granted a = record { first = λ view. refl; named = λ view. refl; alone = refl }
locking-of procedures.GrantedMsg a = record { first = λ view. refl; named = λ view. refl; alone = refl }
locking-of procedures.Share a = record { first = λ view. refl; named = λ view. refl; alone = refl }
locking-of procedures.Unshare a = record { first = λ view. refl; named = λ view. refl; alone = refl }

pub canceling-of : (procedure : Procedure) (a : CancelArguments) → IsOfFile (canceling_call procedure a) a.lock.file
canceling-of procedures.CancelMsg a = record { first = λ view. refl; named = λ view. refl; alone = refl }
canceling-of procedures.Lock a = record { first = λ view. refl; named = λ view. refl; alone = refl }
canceling-of procedures.NmLock a = record { first = λ view. refl; named = λ view. refl; alone = refl }
canceling-of procedures.LockMsg a = record { first = λ view. refl; named = λ view. refl; alone = refl }
canceling-of procedures.Cancel a = record { first = λ view. refl; named = λ view. refl; alone = refl }
canceling-of procedures.Unlock a = record { first = λ view. refl; named = λ view. refl; alone = refl }
canceling-of procedures.UnlockMsg a = record { first = λ view. refl; named = λ view. refl; alone = refl }
canceling-of procedures.Granted a = record { first = λ view. refl; named = λ view. refl; alone = refl }
canceling-of procedures.GrantedMsg a = record { first = λ view. refl; named = λ view. refl; alone = refl }
canceling-of procedures.Share a = record { first = λ view. refl; named = λ view. refl; alone = refl }
canceling-of procedures.Unshare a = record { first = λ view. refl; named = λ view. refl; alone = refl }

pub unlocking-of : (procedure : Procedure) (a : UnlockArguments) → IsOfFile (unlocking_call procedure a) a.lock.file
unlocking-of procedures.UnlockMsg a = record { first = λ view. refl; named = λ view. refl; alone = refl }
unlocking-of procedures.Lock a = record { first = λ view. refl; named = λ view. refl; alone = refl }
unlocking-of procedures.NmLock a = record { first = λ view. refl; named = λ view. refl; alone = refl }
unlocking-of procedures.LockMsg a = record { first = λ view. refl; named = λ view. refl; alone = refl }
unlocking-of procedures.Cancel a = record { first = λ view. refl; named = λ view. refl; alone = refl }
unlocking-of procedures.CancelMsg a = record { first = λ view. refl; named = λ view. refl; alone = refl }
unlocking-of procedures.Unlock a = record { first = λ view. refl; named = λ view. refl; alone = refl }
unlocking-of procedures.Granted a = record { first = λ view. refl; named = λ view. refl; alone = refl }
unlocking-of procedures.GrantedMsg a = record { first = λ view. refl; named = λ view. refl; alone = refl }
unlocking-of procedures.Share a = record { first = λ view. refl; named = λ view. refl; alone = refl }
unlocking-of procedures.Unshare a = record { first = λ view. refl; named = λ view. refl; alone = refl }

pub sharing-of : (a : ShareArguments) → IsOfFile (calls.Nlm (nlm.Share a)) a.share.file
sharing-of a = record { first = λ view. refl; named = λ view. refl; alone = refl }

pub unsharing-of : (a : ShareArguments) → IsOfFile (calls.Nlm (nlm.Unshare a)) a.share.file
unsharing-of a = record { first = λ view. refl; named = λ view. refl; alone = refl }

-- ---- calls that bring no handle, and name the exports alone
pub record IsAlone (call : Call) : Type 0 where
  pub first : (view : ViewValue) → first_wanted call view ≡ first_wanted_with view []
  pub named : (view : ViewValue) → named_by call view ≡ addresses.Exports ∷ []

pub granting-of : (procedure : Procedure) (a : TestArguments) → IsAlone (granting_call procedure a)
granting-of procedures.GrantedMsg a = record { first = λ view. refl; named = λ view. refl }
granting-of procedures.Granted a = record { first = λ view. refl; named = λ view. refl }
granting-of procedures.Lock a = record { first = λ view. refl; named = λ view. refl }
granting-of procedures.NmLock a = record { first = λ view. refl; named = λ view. refl }
granting-of procedures.LockMsg a = record { first = λ view. refl; named = λ view. refl }
granting-of procedures.Cancel a = record { first = λ view. refl; named = λ view. refl }
granting-of procedures.CancelMsg a = record { first = λ view. refl; named = λ view. refl }
granting-of procedures.Unlock a = record { first = λ view. refl; named = λ view. refl }
granting-of procedures.UnlockMsg a = record { first = λ view. refl; named = λ view. refl }
granting-of procedures.Share a = record { first = λ view. refl; named = λ view. refl }
granting-of procedures.Unshare a = record { first = λ view. refl; named = λ view. refl }

pub passing-of : (call : NlmCall) → is_passed call ≡ true → IsAlone (calls.Nlm call)
passing-of (nlm.TestRes r) is = record { first = λ view. refl; named = λ view. refl }
passing-of (nlm.LockRes r) is = record { first = λ view. refl; named = λ view. refl }
passing-of (nlm.CancelRes r) is = record { first = λ view. refl; named = λ view. refl }
passing-of (nlm.UnlockRes r) is = record { first = λ view. refl; named = λ view. refl }
passing-of nlm.Null is = absurd cc
passing-of (nlm.Test a) is = absurd cc
passing-of (nlm.Lock a) is = absurd cc
passing-of (nlm.Cancel a) is = absurd cc
passing-of (nlm.Unlock a) is = absurd cc
passing-of (nlm.Granted a) is = absurd cc
passing-of (nlm.TestMsg a) is = absurd cc
passing-of (nlm.LockMsg a) is = absurd cc
passing-of (nlm.CancelMsg a) is = absurd cc
passing-of (nlm.UnlockMsg a) is = absurd cc
passing-of (nlm.GrantedMsg a) is = absurd cc
passing-of (nlm.GrantedRes r) is = absurd cc
passing-of (nlm.Share a) is = absurd cc
passing-of (nlm.Unshare a) is = absurd cc
passing-of (nlm.NmLock a) is = absurd cc
passing-of (nlm.FreeAll a) is = absurd cc

-- with no handle the exports are wanted, and nothing else
pub wanted-alone : (view : ViewValue) → first_wanted_with view [] ≡ unless_seen view addresses.Exports
wanted-alone view = by (unless_seen view addresses.Exports)
  where
    by : (o : Option Addr) → elim o [ Some a ↦ Some a | None ↦ None ] ≡ o
    by (Some a) = refl
    by None = refl

-- what the view has seen the draft does not lack
pub exports-known : (d : DraftValue) → d.writes ≡ [] → unless_seen d.view addresses.Exports ≡ None → (halt : Missing) →
    Lacks d addresses.Exports halt → ⊥
exports-known d none seen halt lacks =
    let wanted : unless_seen d.view addresses.Exports ≡ Some addresses.Exports =
    lacking-unseen d addresses.Exports halt lacks in
    let no : Some addresses.Exports ≡ None = sym wanted ∙ seen in cc

-- ---- how calls halt
-- where each halt is want of memory, nothing is asked for
pub asks-nothing : {A : Type 0} (P : A → Type 0) (r : Result A Missing)
    → MatchResult r P (λ halt. halt ≡ halts.Memory) →
    AsksNothing r
asks-nothing P (Ok x) is = tt
asks-nothing {A} P (Err halt) is = subst (λ h. AsksNothing {A = A} (Err h)) (sym is) tt

-- what is answered is the call's end, or there is no memory for it
pub ends-memory : (call : Call) (d : DraftValue) (ctx : Ctx) (r : Result Change Missing) (P : ChangeValue → Type 0) →
    MatchResult r (λ change. P (change_value change)) (λ halt. halt ≡ halts.Memory) →
    ((change : ChangeValue) → P change → IsPromised (done_value call ctx d.view change)) → EndsCall call ctx d.view r
ends-memory call d ctx (Ok change) P is promised = promised (change_value change) is
ends-memory call d ctx (Err halt) P is promised =
    subst (λ h. EndsCall call ctx d.view (Err h)) (sym is) tt

module _ (call : Call) (d : DraftValue) (begins : Begins call d) where
  -- what is wanted first
  pub ends-first : (wanted : Option Addr) → first_wanted call d.view ≡ wanted → (r : Result Change Missing) →
      HaltsFirst d.modes d.view wanted r → EndsFirst call d.view r
  ends-first wanted is r first =
      subst (λ modes. HaltsFirst modes d.view (first_wanted call d.view) r) begins.modes
      (subst (λ w. HaltsFirst d.modes d.view w r) (sym is) first)

  -- it asks for what it names
  pub ends-stopped : (places : List Addr) → named_by call d.view ≡ places → (halt : Missing) → StopsAt d places halt →
      EndsCall call d.ctx d.view (Err halt)
  ends-stopped places named halt stops =
      asking d call halt begins places
      (covers-among places (named_by call d.view) d.view
      (λ a among. subst (λ l. IsAmong l a) (sym named) among)) stops

  -- where it brings no handle
  module _ (alone : IsAlone call) where
    pub alone-ends : (halt : Missing) → StopsAt d (addresses.Exports ∷ []) halt → EndsCall call d.ctx d.view (Err halt)
    alone-ends halt stops = ends-stopped (addresses.Exports ∷ []) (alone.named d.view) halt stops

    alone-wanted : first_wanted call d.view ≡ unless_seen d.view addresses.Exports
    alone-wanted = alone.first d.view ∙ wanted-alone d.view

    pub alone-first : (r : Result Change Missing) → HaltsFirst d.modes d.view (unless_seen d.view addresses.Exports) r →
        EndsFirst call d.view r
    alone-first r first = ends-first (unless_seen d.view addresses.Exports) alone-wanted r first

    -- where the view has the exports, they are not asked for
    pub alone-never : first_wanted call d.view ≡ None → (halt : Missing) → Lacks d addresses.Exports halt → ⊥
    alone-never none halt lacks = exports-known d begins.none (sym alone-wanted ∙ none) halt lacks

  -- it holds locks alone
  pub begins-alone : (modes_of call).locks ≡ Exclusive → d.modes.locks ≡ Exclusive
  begins-alone alone = ap (λ (m : ModesValue). m.locks) begins.modes ∙ alone

-- ---- what a call may ask for that brings a handle
abbrev front : (handle : List ℕ) → Option Handle → List Addr
front handle o = elim o [ None ↦ [] | Some h ↦ locks_at h.fileid ]

module _ (d : DraftValue) (handle : List ℕ) (halt : Missing) where
  abbrev places : List Addr
  places = lock_places d.view handle

  pub stops-named : StopsAt d (brought_by d.view handle) halt → StopsAt d places halt
  stops-named stops =
      stops-wider d.modes (brought_by d.view handle) places 0 d.view halt
      (covers-among (brought_by d.view handle) places d.view
      (λ a among. among-front (brought_by d.view handle) (locks_of (handle ∷ [])) a among)) stops

  -- what its file has
  among-locks : (n : ℕ) → HasNumber handle n → (a : Addr) → IsAmong (locks_at n) a → IsAmong places a
  among-locks n number a among =
      among-behind (brought_by d.view handle) (locks_of (handle ∷ [])) a
      (by (handle_of handle) number)
    where
      by : (o : Option Handle) → option_map (λ (h : Handle). h.fileid) o ≡ Some n → IsAmong (front handle o ++ []) a
      by None is = absurd cc
      by (Some h) is =
          let same : h.fileid ≡ n = cc in
          among-front (locks_at h.fileid) [] a (subst (λ q. IsAmong (locks_at q) a) (sym same) among)

  pub stops-locks : (n : ℕ) → HasNumber handle n → StopsAt d (locks_at n) halt → StopsAt d places halt
  stops-locks n number stops =
      stops-wider d.modes (locks_at n) places 0 d.view halt
      (covers-among (locks_at n) places d.view (among-locks n number)) stops

  pub stops-behind : (n : ℕ) → HasNumber handle n → StopsAt d (addresses.Exports ∷ locks_at n) halt →
      StopsAt d places halt
  stops-behind n number stops =
      stops-wider d.modes (addresses.Exports ∷ locks_at n) places 0 d.view halt
      (covers-among (addresses.Exports ∷ locks_at n) places d.view (λ a among. elim among [
        | inl exports ↦ inl exports
        | inr locks ↦ among-locks n number a locks
      ])) stops
