-- Replies of MOUNT and NLM have spellings, and calls that are refused change nothing.
use Rattle.std.proofs.Common.{◌≡◌, ℕ, ◌≤◌, ◌-◌, zero, suc, Bool, true, false, not, cond}
use Rattle.std.proofs.Common.{List, [], ◌∷◌, ◌++◌, length, drop, map, Result, Ok, Err, IfOk}
use Rattle.std.proofs.Common.{inl, inr, sym, ◌∙◌, ap, subst, arith, Some, None}
use Rattle.std.proofs.Common.{if◌then◌else◌}
use Rattle.std.proofs.lemmas.List.Elements.{All-from_recursion}
use Rattle.std.specs.List.{All, AllByRecursion, list_any}
use Rattle.side_wire.specs.Mount.{HasExportNodeForm, HasMountBodyForm, HasMountForm, IsDirpath, IsHostName}
use Rattle.side_wire.specs.Nlm.{HasNlmForm, HasTestStatusForm, IsNetobj}
use Rattle.side_wire.specs.declared.message.Message.{Message}
use Rattle.side_wire.specs.declared.mount.MountCall.{MountCall}
use Rattle.side_wire.specs.declared.mount.MountCall.TheVariants as mount
use Rattle.side_wire.specs.declared.mount.MountReply.{MountReply}
use Rattle.side_wire.specs.declared.mount.MountReply.TheVariants as mount_replies
use Rattle.side_wire.specs.declared.mount.MountStatus.{MountStatus}
use Rattle.side_wire.specs.declared.nlm.CancelArguments.{CancelArguments}
use Rattle.side_wire.specs.declared.nlm.LockArguments.{LockArguments}
use Rattle.side_wire.specs.declared.nlm.NlmCall.TheVariants as nlm
use Rattle.side_wire.specs.declared.nlm.NlmShare.{NlmShare}
use Rattle.side_wire.specs.declared.nlm.NlmStatus.{NlmStatus}
use Rattle.side_wire.specs.declared.nlm.NlmStatus.TheVariants as status
use Rattle.side_wire.specs.declared.nlm.ShareMode.TheVariants as mode
use Rattle.side_wire.specs.declared.nlm.TestArguments.{TestArguments}
use Rattle.side_wire.specs.declared.nlm.UnlockArguments.{UnlockArguments}
use Rattle.side_wire.specs.declared.nlm.TestStatus.{TestStatus}
use Rattle.side_wire.specs.declared.nlm.TestStatus.TheVariants as tested
use Rattle.nfs_machine.specs.Bytes.{same_bytes}
use Rattle.nfs_machine.specs.Exports.{LivingExport, every_host}
use Rattle.nfs_machine.specs.FileLists.{of_file}
use Rattle.nfs_machine.specs.Locks.{Mode, denies, range_of}
use Rattle.nfs_machine.specs.LockSteps.{HeldUp, LockFault, NotRegular, RangeTooBig, ReadOnly, StaleHandle, Tests}
use Rattle.nfs_machine.specs.LockSteps.{file_checked, is_request, lock_checked, share_of, test_status_of}
use Rattle.nfs_machine.specs.MountSteps.{MntAnswers, MountStep, is_mounted, is_of, listed_exports, newest}
use Rattle.nfs_machine.specs.MountSteps.{with_mount, without_mounts}
use Rattle.nfs_machine.specs.NlmSteps.{NlmStep}
use Rattle.nfs_machine.specs.OneFile as one
use Rattle.nfs_machine.specs.SideLaws.{ExportsFit, MountRefusalsChangeNothing, MountRepliesHaveForm, MountsFit}
use Rattle.nfs_machine.specs.SideLaws.{NlmRefusalsChangeNothing, NlmRepliesHaveForm, OwnersFit, PathFits}
use Rattle.nfs_machine.specs.SideLaws.{is_mount_refusal, is_nlm_refusal, refuses}
use Rattle.nfs_machine.specs.State.{Lock, Request, Share, State, Range}
use Rattle.nfs_machine.specs.declared.context.Ctx.{Ctx}
use Rattle.nfs_machine.proofs.NlmChecksLemmas.{
  CancelOf,
  Cancels,
  LockOf,
  ShareOf,
  ShareAnswers,
  TestOf,
  UnlockOf,
  UnshareOf,
}
use Rattle.nfs_machine.proofs.ModesLemmas.{all-joined, all-left}
use Rattle.side_wire.specs.declared.mount.lists.MountBody.{MountBody}

-- ---- MOUNT
all-listed : {X Y : Type 0} (P : X → Type 0) (Q : Y → Type 0) (f : X → Y) (xs : List X) →
    ((x : X) → P x → Q (f x)) → AllByRecursion P xs → AllByRecursion Q (map f xs)
all-listed P Q f [] g all = tt
all-listed P Q f (x ∷ xs) g all = (g x all.0, all-listed P Q f xs g all.1)

all-dropped : {X : Type 0} (P : X → Type 0) (n : ℕ) (xs : List X) → AllByRecursion P xs →
    AllByRecursion P (drop n xs)
all-dropped P zero xs all = all
all-dropped P (suc n) [] all = tt
all-dropped P (suc n) (x ∷ xs) all = all-dropped P n xs all.1

groups-form : (e : LivingExport) → AllByRecursion IsHostName e.hosts →
    All IsHostName (if list_any (λ h. same_bytes h every_host) e.hosts then [] else e.hosts)
groups-form e fit =
    elim (list_any (λ h. same_bytes h every_host) e.hosts) as (λ b. All IsHostName (cond b [] e.hosts)) [
      | true ↦ All-from_recursion IsHostName [] tt
      | false ↦ All-from_recursion IsHostName e.hosts fit
    ]

exports-form : (exports : List LivingExport) → ExportsFit exports → All HasExportNodeForm (listed_exports exports)
exports-form exports fit =
    All-from_recursion HasExportNodeForm (listed_exports exports)
    (all-listed (λ (e : LivingExport). IsDirpath e.path × AllByRecursion IsHostName e.hosts) HasExportNodeForm
    (λ (e : LivingExport). record
    { directory = e.path; groups = if list_any (λ h. same_bytes h every_host) e.hosts then [] else e.hosts })
    exports
    (λ e h. (h.0, groups-form e h.1)) fit)

mnt-form : (old : State) (ctx : Ctx) (path : List ℕ) (result : Result (List ℕ) MountStatus) (new : State) →
    MntAnswers old ctx path result new → IfOk result (λ handle. length handle ≤ 64)
mnt-form old ctx path (Ok handle) new (found, target, is, e) = subst (λ (h : List ℕ). length h ≤ 64) (sym is)
    (omega arith)
mnt-form old ctx path (Err e) new answers = tt

pub mount_replies_form : MountRepliesHaveForm
unfolding MountStep
mount_replies_form old ctx mount.Null reply messages new fit exports step = subst HasMountForm (sym step.reply_is) tt
mount_replies_form old ctx (mount.Mnt path) reply messages new fit exports step = subst HasMountForm (sym step.1)
    (mnt-form old ctx path step.0 new step.3)
mount_replies_form old ctx mount.Dump reply messages new fit exports step = subst HasMountForm (sym step.reply_is)
    (All-from_recursion HasMountBodyForm old.mounts fit)
mount_replies_form old ctx (mount.Unmount path) reply messages new fit exports step = subst HasMountForm
    (sym step.reply_is) tt
mount_replies_form old ctx mount.UnmountAll reply messages new fit exports step = subst HasMountForm
    (sym step.reply_is) tt
mount_replies_form old ctx mount.Export reply messages new fit exports step = subst HasMountForm (sym step.reply_is)
    (exports-form old.exports exports)

mounted-fit : (m : State) (x : MountBody) → IsHostName x.hostname ×
    IsDirpath x.directory → MountsFit m → MountsFit (with_mount m x)
mounted-fit m x one fit =
    elim (is_mounted m.mounts x) as (λ b. MountsFit (cond b m (record m { mounts = newest (m.mounts ++ x ∷ []) }))) [
      | true ↦ fit
      | false ↦ all-dropped (λ (x : MountBody). IsHostName x.hostname × IsDirpath x.directory)
          (length (m.mounts ++ x ∷ []) - 65536) (m.mounts ++ x ∷ [])
          (all-joined (λ (x : MountBody). IsHostName x.hostname × IsDirpath x.directory) m.mounts (x ∷ []) fit
          (one, tt))
    ]

mnt-fit : (old : State) (ctx : Ctx) (path : List ℕ) (result : Result (List ℕ) MountStatus) (new : State) →
    MountsFit old → IsHostName ctx.host → IsDirpath path → MntAnswers old ctx path result new → MountsFit new
mnt-fit old ctx path (Ok handle) new fit host within (found, target, is, e) = subst MountsFit (sym e)
    (mounted-fit old (record { hostname = ctx.host; directory = path }) (host, within) fit)
mnt-fit old ctx path (Err e) new fit host within (why, same) = subst MountsFit (sym same) fit

left-fit : (m : State) (goes : MountBody → Bool) → MountsFit m → MountsFit (without_mounts m goes)
left-fit m goes fit =
    all-left (λ (x : MountBody). IsHostName x.hostname × IsDirpath x.directory)
    (λ (x : MountBody). IsHostName x.hostname × IsDirpath x.directory) (λ (x : MountBody). not (goes x)) m.mounts
    (λ x e h. h) fit

pub mount_fits : (old : State) (ctx : Ctx) (call : MountCall) (reply : MountReply) (messages : List Message)
    (new : State)
    → MountsFit old → IsHostName ctx.host → PathFits call → MountStep old ctx call reply messages new →
    MountsFit new
unfolding MountStep
mount_fits old ctx mount.Null reply messages new fit host path step = subst MountsFit (sym step.state_is) fit
mount_fits old ctx (mount.Mnt path) reply messages new fit host within step = mnt-fit old ctx path step.0 new fit host
    within step.3
mount_fits old ctx mount.Dump reply messages new fit host path step = subst MountsFit (sym step.state_is) fit
mount_fits old ctx (mount.Unmount path) reply messages new fit host within step = subst MountsFit (sym step.state_is)
    (left-fit old (is_of ctx.host path) fit)
mount_fits old ctx mount.UnmountAll reply messages new fit host path step = subst MountsFit (sym step.state_is)
    (left-fit old (λ (x : MountBody). same_bytes x.hostname ctx.host) fit)
mount_fits old ctx mount.Export reply messages new fit host path step = subst MountsFit (sym step.state_is) fit

mnt-refused : (old : State) (ctx : Ctx) (path : List ℕ) (result : Result (List ℕ) MountStatus) (new : State) →
    MntAnswers old ctx path result new → is_mount_refusal (mount_replies.Mnt result) ≡ true → new ≡ old
mnt-refused old ctx path (Ok handle) new answers e = cc
mnt-refused old ctx path (Err x) new (why, same) e = same

pub mount_refusals_unchanged : MountRefusalsChangeNothing
unfolding MountStep
mount_refusals_unchanged old ctx mount.Null reply messages new step e = (step.state_is, step.no_message)
mount_refusals_unchanged old ctx (mount.Mnt path) reply messages new step e =
    (mnt-refused old ctx path step.0 new step.3 (sym (ap is_mount_refusal step.1) ∙ e), step.2)
mount_refusals_unchanged old ctx mount.Dump reply messages new step e = (step.state_is, step.no_message)
mount_refusals_unchanged old ctx (mount.Unmount path) reply messages new step e =
    (let no : false ≡ true = sym (ap is_mount_refusal step.reply_is) ∙ e in cc)
mount_refusals_unchanged old ctx mount.UnmountAll reply messages new step e =
    (let no : false ≡ true = sym (ap is_mount_refusal step.reply_is) ∙ e in cc)
mount_refusals_unchanged old ctx mount.Export reply messages new step e = (step.state_is, step.no_message)

-- ---- NLM
has-some : (exclusive : Bool) → Some exclusive ≡ None → ⊥
has-some exclusive e = cc

tests-form : (locks : List Lock) (r : Range) (mode : Mode) (s : TestStatus) → OwnersFit locks → Tests locks r mode s
    → HasTestStatusForm s
tests-form locks r mode tested.Granted fit t = tt
tests-form locks r mode (tested.Denied holder) fit t =
    subst IsNetobj (sym t.owner_is) (fit t.conflict.other t.conflict.offset (λ none.
    has-some holder.exclusive (sym (t.has t.conflict.offset t.is_shown) ∙ none)))
tests-form locks r mode s fit t = absurd t

fault-form : (fault : LockFault) → HasTestStatusForm (test_status_of fault)
fault-form StaleHandle = tt
fault-form NotRegular = tt
fault-form RangeTooBig = tt
fault-form ReadOnly = tt

pub test-form : (old : State) (a : TestArguments) (checked : Result ℕ LockFault) (s : TestStatus)
    (messages : List Message)
    (new : State) → ((file : ℕ) → OwnersFit (of_file old.locks file)) → TestOf old a checked s messages new
    → HasTestStatusForm s
test-form old a (Err fault) s messages new fit step = subst HasTestStatusForm (sym step.reply_is) (fault-form fault)
test-form old a (Ok file) s messages new fit step =
    tests-form (of_file old.locks file) (range_of a.lock) (Some a.exclusive) s (fit file) step.0

pub nlm_replies_form : NlmRepliesHaveForm
unfolding NlmStep
nlm_replies_form old ctx nlm.Null reply messages new fit call step = subst HasNlmForm (sym step.reply_is) tt
nlm_replies_form old ctx (nlm.Test a) reply messages new fit call step =
    subst HasNlmForm (sym step.2)
    (call.0, test-form old a (lock_checked old ctx false a.lock) step.0 messages new fit step.1)
nlm_replies_form old ctx (nlm.Lock a) reply messages new fit call step = subst HasNlmForm (sym step.2) call.0
nlm_replies_form old ctx (nlm.Cancel a) reply messages new fit call step = subst HasNlmForm (sym step.2) call.0
nlm_replies_form old ctx (nlm.Unlock a) reply messages new fit call step = subst HasNlmForm (sym step.2) call.0
nlm_replies_form old ctx (nlm.Granted a) reply messages new fit call step = subst HasNlmForm (sym step.2) call.0
nlm_replies_form old ctx (nlm.TestMsg a) reply messages new fit call step = subst HasNlmForm (sym step.3) tt
nlm_replies_form old ctx (nlm.LockMsg a) reply messages new fit call step = subst HasNlmForm (sym step.3) tt
nlm_replies_form old ctx (nlm.CancelMsg a) reply messages new fit call step = subst HasNlmForm (sym step.3) tt
nlm_replies_form old ctx (nlm.UnlockMsg a) reply messages new fit call step = subst HasNlmForm (sym step.3) tt
nlm_replies_form old ctx (nlm.GrantedMsg a) reply messages new fit call step = subst HasNlmForm (sym step.3) tt
nlm_replies_form old ctx (nlm.TestRes r) reply messages new fit call step = subst HasNlmForm (sym step.reply_is) tt
nlm_replies_form old ctx (nlm.LockRes r) reply messages new fit call step = subst HasNlmForm (sym step.reply_is) tt
nlm_replies_form old ctx (nlm.CancelRes r) reply messages new fit call step = subst HasNlmForm (sym step.reply_is) tt
nlm_replies_form old ctx (nlm.UnlockRes r) reply messages new fit call step = subst HasNlmForm (sym step.reply_is) tt
nlm_replies_form old ctx (nlm.GrantedRes r) reply messages new fit call step = subst HasNlmForm (sym step.0) tt
nlm_replies_form old ctx (nlm.Share a) reply messages new fit call step = subst HasNlmForm (sym step.2) call
nlm_replies_form old ctx (nlm.Unshare a) reply messages new fit call step = subst HasNlmForm (sym step.2) call
nlm_replies_form old ctx (nlm.NmLock a) reply messages new fit call step = subst HasNlmForm (sym step.2) call.0
nlm_replies_form old ctx (nlm.FreeAll a) reply messages new fit call step = subst HasNlmForm (sym step.0) tt

abbrev Nothing : State → List Message → State → Type 0
Nothing old messages new = (new ≡ old) × (messages ≡ [])

not-granted : {A : Type 0} (s : NlmStatus) → s ≡ status.Granted → refuses s ≡ true → A
not-granted s is e = (let no : false ≡ true = sym (ap refuses is) ∙ e in cc)

pub test-unchanged : (old : State) (a : TestArguments) (checked : Result ℕ LockFault) (s : TestStatus)
    (messages : List Message) (new : State) → TestOf old a checked s messages new → Nothing old messages new
test-unchanged old a (Err fault) s messages new step = (step.state_is, step.no_message)
test-unchanged old a (Ok file) s messages new step = (step.2, step.1)

held-unchanged : (old : State) (ctx : Ctx) (a : LockArguments) (by_message : Bool) (file : ℕ) (block waits : Bool)
    (s : NlmStatus) (messages : List Message) (new : State) →
    HeldUp old ctx a by_message file block waits s messages new
    → refuses s ≡ true → Nothing old messages new
held-unchanged old ctx a by_message file false waits s messages new step e = (step.state_is, step.no_message)
held-unchanged old ctx a by_message file true true s messages new step e = (step.state_is, step.no_message)
held-unchanged old ctx a by_message file true false s messages new (inl waits) e =
    let no : false ≡ true = sym (ap refuses waits.answers.reply_is) ∙ e in cc
held-unchanged old ctx a by_message file true false s messages new (inr none) e = (none.1.state_is, none.1.no_message)

pub lock-unchanged : (old : State) (ctx : Ctx) (a : LockArguments) (by_message : Bool) (checked : Result ℕ LockFault)
    (s : NlmStatus) (messages : List Message) (new : State) → LockOf old ctx a by_message checked s messages new
    → refuses s ≡ true → Nothing old messages new
lock-unchanged old ctx a by_message (Err fault) s messages new step e = (step.state_is, step.no_message)
lock-unchanged old ctx a by_message (Ok file) s messages new (inl free) e = not-granted s free.1 e
lock-unchanged old ctx a by_message (Ok file) s messages new (inr held) e =
    held-unchanged old ctx a by_message file a.block
    (list_any (is_request a.exclusive a.lock) (of_file old.waiting file)) s messages new held.1 e

cancels-unchanged : (old : State) (file : ℕ) (goes : Request → Bool) (some : Bool) (s : NlmStatus)
    (messages : List Message)
    (new : State) → Cancels old file goes some s messages new → refuses s ≡ true → Nothing old messages new
cancels-unchanged old file goes true s messages new step e = not-granted s step.reply_is e
cancels-unchanged old file goes false s messages new step e = (step.state_is, step.no_message)

pub cancel-unchanged : (old : State) (a : CancelArguments) (checked : Result ℕ LockFault) (s : NlmStatus)
    (messages : List Message) (new : State) → CancelOf old a checked s messages new → refuses s ≡ true
    → Nothing old messages new
cancel-unchanged old a (Err fault) s messages new step e = (step.state_is, step.no_message)
cancel-unchanged old a (Ok file) s messages new step e =
    cancels-unchanged old file (is_request a.exclusive a.lock)
    (list_any (is_request a.exclusive a.lock) (of_file old.waiting file)) s messages new step e

pub unlock-unchanged : (old : State) (a : UnlockArguments) (checked : Result ℕ LockFault) (s : NlmStatus)
    (messages : List Message) (new : State) → UnlockOf old a checked s messages new → refuses s ≡ true
    → Nothing old messages new
unlock-unchanged old a (Err fault) s messages new step e = (step.state_is, step.no_message)
unlock-unchanged old a (Ok file) s messages new step e = not-granted s step.0 e

shares-unchanged : (old : State) (file : ℕ) (share : Share) (conflicts : Bool) (s : NlmStatus)
    (messages : List Message)
    (new : State) → ShareAnswers old file share conflicts s messages new → refuses s ≡ true → Nothing old messages new
shares-unchanged old file share true s messages new step e = (step.state_is, step.no_message)
shares-unchanged old file share false s messages new step e = not-granted s step.reply_is e

share-unchanged : (old : State) (asked : NlmShare) (checked : Result ℕ LockFault) (s : NlmStatus)
    (messages : List Message)
    (new : State) → ShareOf old asked checked s messages new → refuses s ≡ true → Nothing old messages new
share-unchanged old asked (Err fault) s messages new step e = (step.state_is, step.no_message)
share-unchanged old asked (Ok file) s messages new step e =
    shares-unchanged old file (share_of asked) (one.is_denied (share_of asked) (of_file old.shares file)) s
    messages new step e

unshare-unchanged : (old : State) (asked : NlmShare) (checked : Result ℕ LockFault) (s : NlmStatus)
    (messages : List Message) (new : State) → UnshareOf old asked checked s messages new → refuses s ≡ true
    → Nothing old messages new
unshare-unchanged old asked (Err fault) s messages new step e = (step.state_is, step.no_message)
unshare-unchanged old asked (Ok file) s messages new step e = not-granted s step.reply_is e

pub nlm_refusals_unchanged : NlmRefusalsChangeNothing
unfolding NlmStep
nlm_refusals_unchanged old ctx nlm.Null reply messages new step e = (step.state_is, step.no_message)
nlm_refusals_unchanged old ctx (nlm.Test a) reply messages new step e = test-unchanged old a
    (lock_checked old ctx false a.lock) step.0 messages new step.1
nlm_refusals_unchanged old ctx (nlm.Lock a) reply messages new step e = lock-unchanged old ctx a false
    (lock_checked old ctx a.exclusive a.lock) step.0 messages new step.1 (sym (ap is_nlm_refusal step.2) ∙ e)
nlm_refusals_unchanged old ctx (nlm.Cancel a) reply messages new step e = cancel-unchanged old a
    (lock_checked old ctx false a.lock) step.0 messages new step.1 (sym (ap is_nlm_refusal step.2) ∙ e)
nlm_refusals_unchanged old ctx (nlm.Unlock a) reply messages new step e = unlock-unchanged old a
    (lock_checked old ctx false a.lock) step.0 messages new step.1 (sym (ap is_nlm_refusal step.2) ∙ e)
nlm_refusals_unchanged old ctx (nlm.Granted a) reply messages new step e = (step.1.state_is, step.1.no_message)
nlm_refusals_unchanged old ctx (nlm.TestMsg a) reply messages new step e =
    (let no : false ≡ true = sym (ap is_nlm_refusal step.3) ∙ e in cc)
nlm_refusals_unchanged old ctx (nlm.LockMsg a) reply messages new step e =
    (let no : false ≡ true = sym (ap is_nlm_refusal step.3) ∙ e in cc)
nlm_refusals_unchanged old ctx (nlm.CancelMsg a) reply messages new step e =
    (let no : false ≡ true = sym (ap is_nlm_refusal step.3) ∙ e in cc)
nlm_refusals_unchanged old ctx (nlm.UnlockMsg a) reply messages new step e =
    (let no : false ≡ true = sym (ap is_nlm_refusal step.3) ∙ e in cc)
nlm_refusals_unchanged old ctx (nlm.GrantedMsg a) reply messages new step e =
    (let no : false ≡ true = sym (ap is_nlm_refusal step.3) ∙ e in cc)
nlm_refusals_unchanged old ctx (nlm.TestRes r) reply messages new step e = (step.state_is, step.no_message)
nlm_refusals_unchanged old ctx (nlm.LockRes r) reply messages new step e = (step.state_is, step.no_message)
nlm_refusals_unchanged old ctx (nlm.CancelRes r) reply messages new step e = (step.state_is, step.no_message)
nlm_refusals_unchanged old ctx (nlm.UnlockRes r) reply messages new step e = (step.state_is, step.no_message)
nlm_refusals_unchanged old ctx (nlm.GrantedRes r) reply messages new step e =
    (let no : false ≡ true = sym (ap is_nlm_refusal step.0) ∙ e in cc)
nlm_refusals_unchanged old ctx (nlm.Share a) reply messages new step e = share-unchanged old a.share
    (file_checked old ctx a.share.file true (denies mode.DenyWrite a.share.access)) step.0 messages new step.1
    (sym (ap is_nlm_refusal step.2) ∙ e)
nlm_refusals_unchanged old ctx (nlm.Unshare a) reply messages new step e = unshare-unchanged old a.share
    (file_checked old ctx a.share.file true false) step.0 messages new step.1 (sym (ap is_nlm_refusal step.2) ∙ e)
nlm_refusals_unchanged old ctx (nlm.NmLock a) reply messages new step e = lock-unchanged old ctx a false
    (lock_checked old ctx a.exclusive a.lock) step.0 messages new step.1 (sym (ap is_nlm_refusal step.2) ∙ e)
nlm_refusals_unchanged old ctx (nlm.FreeAll a) reply messages new step e =
    (let no : false ≡ true = sym (ap is_nlm_refusal step.0) ∙ e in cc)
