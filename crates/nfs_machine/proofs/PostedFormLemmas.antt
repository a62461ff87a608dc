-- The messages of NLM have spellings, where the byte strings of calls, locks and waiting requests are within their
-- bounds.
use Rattle.std.proofs.Common.{◌≡◌, ◌==◌, ℕ, Bool, true, false, not, ◌||◌, cond, List, [], ◌∷◌}
use Rattle.std.proofs.Common.{◌++◌, Option, Some, None, Result, Ok, Err, filter, if◌then◌else◌}
use Rattle.std.proofs.Common.{map, unwrap_or, inl, inr, refl, sym, ◌∙◌, subst, arith}
use Rattle.std.specs.FinMap.{get, remove}
use Rattle.std.specs.Int.{w64, from_be_bytes}
use Rattle.std.specs.List.{AllByRecursion, list_any}
use Rattle.side_wire.specs.Messages.{HasCallbackForm, HasLockForm}
use Rattle.side_wire.specs.Nlm.{IsNetobj}
use Rattle.side_wire.specs.declared.message.Callback.{Callback}
use Rattle.side_wire.specs.declared.message.Callback.TheVariants as callbacks
use Rattle.side_wire.specs.declared.message.Message.{Message}
use Rattle.side_wire.specs.declared.nlm.CancelArguments.{CancelArguments}
use Rattle.side_wire.specs.declared.nlm.LockArguments.{LockArguments}
use Rattle.side_wire.specs.declared.nlm.NlmCall.TheVariants as calls
use Rattle.side_wire.specs.declared.nlm.NlmShare.{NlmShare}
use Rattle.side_wire.specs.declared.nlm.NlmStatus.{NlmStatus}
use Rattle.side_wire.specs.declared.nlm.NlmStatus.TheVariants as status
use Rattle.side_wire.specs.declared.nlm.ShareMode.TheVariants as mode
use Rattle.side_wire.specs.declared.nlm.TestArguments.{TestArguments}
use Rattle.side_wire.specs.declared.nlm.UnlockArguments.{UnlockArguments}
use Rattle.nfs_machine.specs.Bytes.{same_bytes}
use Rattle.nfs_machine.specs.Grants.{ChangesLocks, Grants, SettleInOrder, SettlesFile, at_file, grant_cookie}
use Rattle.nfs_machine.specs.Grants.{ending_grants, grant_message}
use Rattle.nfs_machine.specs.OneFile.{FileLocks, IsGranted, Settles, requested}
use Rattle.nfs_machine.specs.OneFile as one
use Rattle.nfs_machine.specs.FileLists.{of_file, with_list}
use Rattle.nfs_machine.specs.Locks.{HasModes, Mode, denies, is_in, mode_at, modes_with, modes_without, range_of}
use Rattle.nfs_machine.specs.LockSteps.{Frees, GrantEnds, HeldUp, LockFault, file_checked, freed_with, is_answered}
use Rattle.nfs_machine.specs.LockSteps.{is_request, lock_checked, share_of}
use Rattle.nfs_machine.specs.NlmSteps.{NlmStep}
use Rattle.nfs_machine.specs.SideLaws.{LocksFit, NlmMessagesHaveForm, OwnersFit, PutsForms}
use Rattle.nfs_machine.specs.State.{Lock, Owner, PendingGrant, Request, Share, State, Range}
use Rattle.nfs_machine.specs.declared.context.Ctx.{Ctx}
use Rattle.nfs_machine.proofs.NlmChecksLemmas.{CancelOf, Cancels, LockOf, ShareOf, ShareAnswers, UnlockOf, UnshareOf}
use Rattle.nfs_machine.proofs.FileMapLemmas.{each-relisted, each-with, get-relisted, kept-is, remade}
use Rattle.nfs_machine.proofs.ModesLemmas.{all-joined, all-left, all-middle, all-removed, inside}
use Rattle.nfs_machine.proofs.SettlingLemmas.{settles-keep}
use Rattle.nfs_machine.proofs.SideReplyLemmas.{test-form, test-unchanged}

-- where the range's owner is within its bound, so is each owner
owners-with : (old new : List Lock) (r : Range) (mode : Mode) → IsNetobj r.owner.owner →
    HasModes new (modes_with old r mode)
    → OwnersFit old → OwnersFit new
owners-with old new r mode within lists fit owner offset has =
    elim (is_in r owner offset) as (λ b. is_in r owner offset ≡ b
    → (cond b mode (mode_at old owner offset) ≡ None → ⊥) → IsNetobj owner.owner) [
      | true ↦ λ is h. subst (λ (o : Owner). IsNetobj o.owner) (inside r owner offset is).owner_is within
      | false ↦ λ out h. fit owner offset h
    ] refl (λ none. has (lists.modes_are owner offset ∙ none))

-- no owner gets anything
owners-unlocked : (old new : List Lock) (r : Range) → HasModes new (modes_with old r None) → OwnersFit old →
    OwnersFit new
owners-unlocked old new r lists fit owner offset has =
    elim (is_in r owner offset) as
    (λ b. (cond b None (mode_at old owner offset) ≡ None → ⊥) → IsNetobj owner.owner) [
      | true ↦ λ h. absurd (h refl)
      | false ↦ λ h. fit owner offset h
    ] (λ none. has (lists.modes_are owner offset ∙ none))

owners-without : (old new : List Lock) (name : List ℕ) → HasModes new (modes_without old name) → OwnersFit old →
    OwnersFit new
owners-without old new name lists fit owner offset has =
    elim (same_bytes owner.caller_name name) as (λ b. (cond b None (mode_at old owner offset) ≡ None → ⊥)
    → IsNetobj owner.owner) [
      | true ↦ λ h. absurd (h refl)
      | false ↦ λ h. fit owner offset h
    ] (λ none. has (lists.modes_are owner offset ∙ none))

grant-form : (r : Request) → HasLockForm r.asked → HasCallbackForm (grant_message r).call
grant-form r fit =
    let arguments : TestArguments = record { cookie = grant_cookie r.number; exclusive = r.exclusive; lock = r.asked }
    in
    elim r.by_message as (λ b. HasCallbackForm ((cond b callbacks.GrantedMsg callbacks.Granted) arguments)) [
      | true ↦ (omega arith, fit)
      | false ↦ (omega arith, fit)
    ]

abbrev Asked : Request → Type 0
Asked r = HasLockForm r.asked

same : (old : State) (messages : List Message) (new : State) → new ≡ old → messages ≡ [] → LocksFit old →
    PutsForms messages new
same old messages new e none fit = (
  subst (λ (ms : List Message). AllByRecursion (λ (x : Message). HasCallbackForm x.call) ms) (sym none) tt,
  subst LocksFit (sym e) fit,
)

-- one file's locks, or what waits for it
locks-fit : (m : State) (file : ℕ) (locks : List Lock) → OwnersFit locks → LocksFit m
    → LocksFit (record m { locks = with_list m.locks file locks })
locks-fit m file locks here fit q =
    (each-with m.locks file locks (λ n (l : List Lock). OwnersFit l) here (λ n. (fit n).0) q, (fit q).1)

waits-fit : (m : State) (file : ℕ) (waiting : List Request) → AllByRecursion Asked waiting → LocksFit m
    → LocksFit (record m { waiting = with_list m.waiting file waiting })
waits-fit m file waiting here fit q = (
  (fit q).0,
  each-with m.waiting file waiting (λ n (l : List Request). AllByRecursion Asked l) here
      (λ n. (fit n).1) q,
)

-- of one file
abbrev FileFits : FileLocks → Type 0
FileFits x = OwnersFit x.locks × AllByRecursion Asked x.waiting

granted-fits : (a b : FileLocks) (r : Request) → IsGranted a r b → FileFits a → FileFits b × Asked r
granted-fits a b r g fit =
    let asked : AllByRecursion Asked (g.earlier ++ r ∷ g.later) = subst (AllByRecursion Asked) g.waits fit.1 in
    let one : Asked r = all-middle Asked g.earlier r g.later asked in (
      (
        owners-with a.locks b.locks (requested r) (Some r.exclusive) one.2 g.lists fit.0,
        subst (AllByRecursion Asked) (sym g.waiting)
            (all-removed Asked Asked g.earlier r g.later (λ q h. h) asked),
      ),
      one,
    )

grant-forms : (granted : List Request) → AllByRecursion Asked granted →
    AllByRecursion (λ (x : Message). HasCallbackForm x.call) (map grant_message granted)
grant-forms [] asked = tt
grant-forms (r ∷ granted) asked = (grant-form r asked.0, grant-forms granted asked.1)

file-granted : (old : State) (file : ℕ) (before after : FileLocks) (granted : List Request) (messages : List Message)
    (new : State) → Settles before granted after → FileFits before → Grants old file after granted messages new
    → LocksFit old → PutsForms messages new
file-granted old file before after granted messages new settles fits g fit =
    let now = settles-keep FileFits Asked granted-fits before after granted settles fits in (
      subst (λ (ms : List Message). AllByRecursion (λ (x : Message). HasCallbackForm x.call) ms) (sym g.messages_are)
          (grant-forms granted now.1),
      subst LocksFit (sym g.state_is) (waits-fit (record old { locks = with_list old.locks file after.locks }) file
          after.waiting now.0.1 (locks-fit old file after.locks now.0.0 fit)),
    )

settled : (old : State) (file : ℕ) (messages : List Message) (new : State) → SettlesFile old file messages new →
    LocksFit old
    → PutsForms messages new
settled old file messages new s fit =
    file-granted old file (at_file old file) s.after s.granted messages new s.settles (fit file) s.grants fit

-- the locks of a file change, and then what waits for it is tried
changed : (old : State) (file : ℕ) (r : Range) (mode : Mode) (messages : List Message) (new : State)
    (c : ChangesLocks old file r mode messages new) → OwnersFit c.sets.locks → LocksFit old →
    PutsForms messages new
changed old file r mode messages new c owners fit =
    file-granted old file (record (at_file old file) { locks = c.sets.locks }) c.after c.granted messages new
    c.sets.settles
    (owners, (fit file).1) c.grants fit

settled-all : (old : State) (files : List ℕ) (messages : List Message) (new : State) →
    SettleInOrder old files messages new
    → LocksFit old → PutsForms messages new
settled-all old [] messages new (held, none, e) fit = same old messages new e none fit
settled-all old (file ∷ files) messages new (rise, mid, first, more, are, settles, rest) fit =
    let head = settled old file first mid settles fit in
    let tail = settled-all mid files more new rest head.1 in (
      subst (λ (ms : List Message). AllByRecursion (λ (x : Message). HasCallbackForm x.call) ms) (sym are)
          (all-joined (λ (x : Message). HasCallbackForm x.call) first more head.0 tail.0),
      tail.1,
    )

unlocks : (old : State) (file : ℕ) (r : Range) (messages : List Message) (new : State)
    → ChangesLocks old file r None messages new → LocksFit old → PutsForms messages new
unlocks old file r messages new c fit =
    changed old file r None messages new c
    (owners-unlocked (of_file old.locks file) c.sets.locks r c.sets.lists (fit file).0) fit

held-up : (old : State) (ctx : Ctx) (a : LockArguments) (by_message : Bool) (file : ℕ) (block waits : Bool)
    (s : NlmStatus)
    (messages : List Message) (new : State) → HasLockForm a.lock
    → HeldUp old ctx a by_message file block waits s messages new → LocksFit old → PutsForms messages new
held-up old ctx a by_message file false waits s messages new lock step fit =
    same old messages new step.state_is step.no_message fit
held-up old ctx a by_message file true true s messages new lock step fit =
    same old messages new step.state_is step.no_message fit
held-up old ctx a by_message file true false s messages new lock (inl waits) fit =
    let r : Request = record {
      number = waits.number;
      host = ctx.host;
      exclusive = a.exclusive;
      asked = a.lock;
      by_message = by_message;
    } in
    let longer : List Request = of_file old.waiting file ++ r ∷ [] in
    same (record old {
      waiting = with_list old.waiting file longer;
      spent_grants = λ n. (n == waits.number) || old.spent_grants n;
    }) messages new waits.answers.state_is waits.answers.no_message
    (waits-fit old file longer (all-joined Asked (of_file old.waiting file) (r ∷ []) (fit file).1 (lock, tt)) fit)
held-up old ctx a by_message file true false s messages new lock (inr none) fit =
    same old messages new none.1.state_is none.1.no_message fit

locked : (old : State) (ctx : Ctx) (a : LockArguments) (by_message : Bool) (checked : Result ℕ LockFault)
    (s : NlmStatus)
    (messages : List Message) (new : State) → HasLockForm a.lock →
    LockOf old ctx a by_message checked s messages new
    → LocksFit old → PutsForms messages new
locked old ctx a by_message (Err fault) s messages new lock step fit =
    same old messages new step.state_is step.no_message fit
locked old ctx a by_message (Ok file) s messages new lock (inl free) fit =
    let c = free.2 in
    changed (ending_grants old file (range_of a.lock)) file (range_of a.lock) (Some a.exclusive) messages new c
    (owners-with (of_file old.locks file) c.sets.locks (range_of a.lock) (Some a.exclusive) lock.2
    c.sets.lists (fit file).0) fit
locked old ctx a by_message (Ok file) s messages new lock (inr up) fit =
    held-up old ctx a by_message file a.block (list_any (is_request a.exclusive a.lock) (of_file old.waiting file)) s
    messages new lock up.1 fit

cancels : (old : State) (file : ℕ) (goes : Request → Bool) (some : Bool) (s : NlmStatus) (messages : List Message)
    (new : State) → Cancels old file goes some s messages new → LocksFit old → PutsForms messages new
cancels old file goes true s messages new step fit =
    let stay : Request → Bool = λ (r : Request). not (goes r) in
    same (record old { waiting = with_list old.waiting file (filter stay (of_file old.waiting file)) }) messages new
    step.state_is step.no_message (waits-fit old file (filter stay (of_file old.waiting file))
    (all-left Asked Asked stay (of_file old.waiting file) (λ q e h. h) (fit file).1) fit)
cancels old file goes false s messages new step fit = same old messages new step.state_is step.no_message fit

cancelled : (old : State) (a : CancelArguments) (checked : Result ℕ LockFault) (s : NlmStatus)
    (messages : List Message)
    (new : State) → CancelOf old a checked s messages new → LocksFit old → PutsForms messages new
cancelled old a (Err fault) s messages new step fit = same old messages new step.state_is step.no_message fit
cancelled old a (Ok file) s messages new step fit =
    cancels old file (is_request a.exclusive a.lock)
    (list_any (is_request a.exclusive a.lock) (of_file old.waiting file)) s messages new step fit

unlocked : (old : State) (a : UnlockArguments) (checked : Result ℕ LockFault) (s : NlmStatus)
    (messages : List Message)
    (new : State) → UnlockOf old a checked s messages new → LocksFit old → PutsForms messages new
unlocked old a (Err fault) s messages new step fit = same old messages new step.state_is step.no_message fit
unlocked old a (Ok file) s messages new step fit =
    unlocks (ending_grants old file (range_of a.lock)) file (range_of a.lock) messages new step.1 fit

answered : (old : State) (number : ℕ) (found : Option PendingGrant) (s : NlmStatus) (messages : List Message)
    (new : State)
    → GrantEnds old number found s messages new → LocksFit old → PutsForms messages new
answered old number None s messages new step fit = same old messages new step.1 step.0 fit
answered old number (Some grant) status.Granted messages new step fit =
    same (record old { granted = remove old.granted number }) messages new step.1 step.0 fit
answered old number (Some grant) s messages new step fit =
    unlocks (record old { granted = remove old.granted number }) grant.file
    (requested grant.request) messages new step fit

share-left : (old : State) (file : ℕ) (share : Share) (conflicts : Bool) (s : NlmStatus) (messages : List Message)
    (new : State) → ShareAnswers old file share conflicts s messages new → LocksFit old → PutsForms messages new
share-left old file share true s messages new step fit = same old messages new step.state_is step.no_message fit
share-left old file share false s messages new step fit = same (record old
    { shares = with_list old.shares file (one.shared share (of_file old.shares file)) })
    messages new step.state_is step.no_message fit

shared : (old : State) (asked : NlmShare) (checked : Result ℕ LockFault) (s : NlmStatus) (messages : List Message)
    (new : State) → ShareOf old asked checked s messages new → LocksFit old → PutsForms messages new
shared old asked (Err fault) s messages new step fit = same old messages new step.state_is step.no_message fit
shared old asked (Ok file) s messages new step fit =
    share-left old file (share_of asked)
    (one.is_denied (share_of asked) (of_file old.shares file)) s messages
    new step fit

unshared : (old : State) (asked : NlmShare) (checked : Result ℕ LockFault) (s : NlmStatus) (messages : List Message)
    (new : State) → UnshareOf old asked checked s messages new → LocksFit old → PutsForms messages new
unshared old asked (Err fault) s messages new step fit = same old messages new step.state_is step.no_message fit
unshared old asked (Ok file) s messages new step fit = same (record old
    { shares = with_list old.shares file (one.unshared (share_of asked) (of_file old.shares file)) })
    messages new step.state_is step.no_message fit

-- the locks of a file without those of a caller
owners-freed : (name : List ℕ) (new : ℕ → List Lock) (file : ℕ) (o : Option (List Lock))
    → HasModes (new file) (modes_without (unwrap_or o []) name) → OwnersFit (unwrap_or o [])
    → OwnersFit (unwrap_or (remade (λ q _. new q) file o) [])
owners-freed name new file None lists h = λ owner offset has. absurd (has refl)
owners-freed name new file (Some list) lists h =
    subst OwnersFit (sym (kept-is (new file))) (owners-without list (new file) name lists h)

freed : (old : State) (name : List ℕ) (messages : List Message) (new : State) → Frees old name messages new →
    LocksFit old
    → PutsForms messages new
freed old name messages new f fit =
    settled-all (freed_with old name f.locks) f.files messages new f.settle (λ q. (
      subst (λ o. OwnersFit (unwrap_or o [])) (sym (get-relisted (λ file _. f.locks file) old.locks q))
          (owners-freed name f.locks q (get old.locks q) (f.lists q) (fit q).0),
      each-relisted (λ file. one.requests_without name) old.waiting
          (λ n (l : List Request). AllByRecursion Asked l) (λ n. tt)
          (λ n all. all-left Asked Asked (λ (r : Request). not (same_bytes r.asked.caller_name name))
          (of_file old.waiting n) (λ r e h. h) all) (λ n. (fit n).1) q,
    ))

-- the result behind the messages of the call
posted : (granted messages : List Message) (host : List ℕ) (result : Callback) (new : State) →
    messages ≡ granted ++ record { host = host; call = result } ∷ [] → HasCallbackForm result →
    PutsForms granted new → PutsForms messages new
posted granted messages host result new are form puts = (
  subst (λ (ms : List Message). AllByRecursion (λ (x : Message). HasCallbackForm x.call) ms) (sym are)
      (all-joined (λ (x : Message). HasCallbackForm x.call) granted
      (record { host = host; call = result } ∷ []) puts.0 (form, tt)),
  puts.1,
)

pub nlm_messages_form : NlmMessagesHaveForm
unfolding NlmStep
nlm_messages_form old ctx calls.Null reply messages new fit call step = same old messages new step.state_is
    step.no_message fit
nlm_messages_form old ctx (calls.Test a) reply messages new fit call step =
    (let t = test-unchanged old a
    (lock_checked old ctx false a.lock) step.0 messages new step.1 in same old messages new t.0 t.1 fit)
nlm_messages_form old ctx (calls.Lock a) reply messages new fit call step = locked old ctx a false
    (lock_checked old ctx a.exclusive a.lock) step.0 messages new call.1 step.1 fit
nlm_messages_form old ctx (calls.Cancel a) reply messages new fit call step = cancelled old a
    (lock_checked old ctx false a.lock) step.0 messages new step.1 fit
nlm_messages_form old ctx (calls.Unlock a) reply messages new fit call step = unlocked old a
    (lock_checked old ctx false a.lock) step.0 messages new step.1 fit
nlm_messages_form old ctx
    (calls.Granted a) reply messages new fit call step = same old messages new step.1.state_is step.1.no_message fit
nlm_messages_form old ctx (calls.TestMsg a) reply messages new fit call step =
    let t = test-unchanged old a (lock_checked old ctx false a.lock) step.0 step.1 new step.2 in
    posted step.1 messages ctx.host _ new step.4
    (call.0, test-form old a (lock_checked old ctx false a.lock) step.0 step.1 new (λ file. (fit file).0) step.2)
    (same old step.1 new t.0 t.1 fit)
nlm_messages_form old ctx (calls.LockMsg a) reply messages new fit call step =
    posted step.1 messages ctx.host _ new step.4 call.0
    (locked old ctx a true (lock_checked old ctx a.exclusive a.lock) step.0 step.1 new call.1 step.2 fit)
nlm_messages_form old ctx (calls.CancelMsg a) reply messages new fit call step =
    posted step.1 messages ctx.host _ new step.4 call.0
    (cancelled old a (lock_checked old ctx false a.lock) step.0 step.1 new step.2 fit)
nlm_messages_form old ctx (calls.UnlockMsg a) reply messages new fit call step =
    posted step.1 messages ctx.host _ new step.4 call.0
    (unlocked old a (lock_checked old ctx false a.lock) step.0 step.1 new step.2 fit)
nlm_messages_form old ctx (calls.GrantedMsg a) reply messages new fit call step =
    posted step.1 messages ctx.host _ new step.4 call.0 (same old step.1 new step.2.state_is step.2.no_message fit)
nlm_messages_form old ctx
    (calls.TestRes r) reply messages new fit call step = same old messages new step.state_is step.no_message fit
nlm_messages_form old ctx
    (calls.LockRes r) reply messages new fit call step = same old messages new step.state_is step.no_message fit
nlm_messages_form old ctx
    (calls.CancelRes r) reply messages new fit call step = same old messages new step.state_is step.no_message fit
nlm_messages_form old ctx
    (calls.UnlockRes r) reply messages new fit call step = same old messages new step.state_is step.no_message fit
nlm_messages_form old ctx (calls.GrantedRes r) reply messages new fit call step = (
    let number : ℕ = from_be_bytes w64 r.cookie in let found = get old.granted number in
    answered old number (if is_answered ctx.host r.cookie number found then found else None) r.status messages new
    step.1 fit)
nlm_messages_form old ctx (calls.Share a) reply messages new fit call step = shared old a.share
    (file_checked old ctx a.share.file true (denies mode.DenyWrite a.share.access)) step.0 messages new step.1 fit
nlm_messages_form old ctx (calls.Unshare a) reply messages new fit call step = unshared old a.share
    (file_checked old ctx a.share.file true false) step.0 messages new step.1 fit
nlm_messages_form old ctx (calls.NmLock a) reply messages new fit call step = locked old ctx a false
    (lock_checked old ctx a.exclusive a.lock) step.0 messages new call.1 step.1 fit
nlm_messages_form old ctx (calls.FreeAll a) reply messages new fit call step = freed old a.name messages new step.1 fit
