-- Each request that waits conflicts with what is held of its file, and goes on to do so.
use Rattle.std.proofs.Common.{◌≡◌, ◌==◌, ℕ, Bool, true, false, not, List, [], ◌∷◌}
use Rattle.std.proofs.Common.{◌++◌, Option, Some, None}
use Rattle.std.proofs.Common.{Result, Ok, Err, filter, if◌then◌else◌, inl, inr, refl, sym}
use Rattle.std.proofs.Common.{subst}
use Rattle.std.specs.Cmp.{unsigned_Decides}
use Rattle.std.specs.FinMap.{get, remove}
use Rattle.std.specs.Int.{w64, from_be_bytes}
use Rattle.std.specs.List.{AllByRecursion, list_any}
use Rattle.side_wire.specs.declared.message.Message.{Message}
use Rattle.side_wire.specs.declared.nlm.CancelArguments.{CancelArguments}
use Rattle.side_wire.specs.declared.nlm.LockArguments.{LockArguments}
use Rattle.side_wire.specs.declared.nlm.NlmCall.{NlmCall}
use Rattle.side_wire.specs.declared.nlm.NlmCall.TheVariants as calls
use Rattle.side_wire.specs.declared.nlm.NlmReply.{NlmReply}
use Rattle.side_wire.specs.declared.nlm.NlmShare.{NlmShare}
use Rattle.side_wire.specs.declared.nlm.NlmStatus.{NlmStatus}
use Rattle.side_wire.specs.declared.nlm.NlmStatus.TheVariants as status
use Rattle.side_wire.specs.declared.nlm.ShareMode.TheVariants as mode
use Rattle.side_wire.specs.declared.nlm.TestArguments.{TestArguments}
use Rattle.side_wire.specs.declared.nlm.TestStatus.{TestStatus}
use Rattle.side_wire.specs.declared.nlm.UnlockArguments.{UnlockArguments}
use Rattle.nfs_machine.specs.FileLists.{of_file, with_list}
use Rattle.nfs_machine.specs.Grants.{AllHeldUp, ChangesLocks, FileWaits, Grants, SettleInOrder, at_file, ending_grants}
use Rattle.nfs_machine.specs.OneFile.{AreHeldUp, FileLocks, IsHeldUp}
use Rattle.nfs_machine.specs.OneFile.{requested}
use Rattle.nfs_machine.specs.Locks.{Conflicts, Mode, denies, range_of}
use Rattle.nfs_machine.specs.LockSteps.{GrantEnds, HeldUp, LockFault, file_checked, is_answered, is_request}
use Rattle.nfs_machine.specs.LockSteps.{lock_checked}
use Rattle.nfs_machine.specs.LockSteps.{share_of}
use Rattle.nfs_machine.specs.NlmSteps.{NlmStep}
use Rattle.nfs_machine.specs.OneFile as one
use Rattle.nfs_machine.specs.State.{Lock, PendingGrant, Range, Request, Share, State}
use Rattle.nfs_machine.specs.declared.context.Ctx.{Ctx}
use Rattle.nfs_machine.proofs.NlmChecksLemmas.{
  CancelOf,
  Cancels,
  LockOf,
  ShareOf,
  ShareAnswers,
  TestOf,
  UnlockOf,
  UnshareOf,
}
use Rattle.nfs_machine.proofs.FileMapLemmas.{each-with, of-other, of-there}
use Rattle.nfs_machine.proofs.FirmLemmas.{granting}
use Rattle.nfs_machine.proofs.ModesLemmas.{all-joined, all-left}
use Rattle.nfs_machine.proofs.SettlingLemmas.{settles-held}

-- the requests of all files but one, that is to settle, are held up
abbrev HeldUpBut : ℕ → State → Type 0
HeldUpBut file m = (q : ℕ) → (q == file) ≡ false → FileWaits m q

-- where one file settles, all are held up
all-settled : (m : State) (file : ℕ) → FileWaits m file → HeldUpBut file m → AllHeldUp m
all-settled m file here held q =
    elim (q == file) as (λ b. (q == file) ≡ b → FileWaits m q) [
      | true ↦ λ e. subst (FileWaits m) (sym ((unsigned_Decides q file).0 e)) here
      | false ↦ λ e. held q e
    ] refl

-- what a file comes to have is held up
file-granted : (old : State) (file : ℕ) (after : FileLocks) (granted : List Request) (messages : List Message)
    (new : State)
    → Grants old file after granted messages new → AreHeldUp after → HeldUpBut file old → AllHeldUp new
file-granted old file after granted messages new g here held =
    let left : State = granting old file after granted in
    subst AllHeldUp (sym g.state_is) (all-settled left file
    (subst (λ (locks : List Lock). AllByRecursion (IsHeldUp locks) (of_file left.waiting file))
    (sym (of-there old.locks file after.locks))
    (subst (AllByRecursion (IsHeldUp after.locks)) (sym (of-there old.waiting file after.waiting)) here))
    (λ q other. subst (λ (locks : List Lock). AllByRecursion (IsHeldUp locks) (of_file left.waiting q))
    (sym (of-other old.locks file after.locks q other))
    (subst (AllByRecursion (IsHeldUp (of_file old.locks q)))
    (sym (of-other old.waiting file after.waiting q other)) (held q other))))

changed : (old : State) (file : ℕ) (r : Range) (mode : Mode) (messages : List Message) (new : State)
    → ChangesLocks old file r mode messages new → AllHeldUp old → AllHeldUp new
changed old file r mode messages new c held = file-granted old file c.after c.granted messages new c.grants
    (settles-held (record (at_file old file) { locks = c.sets.locks }) c.after c.granted c.sets.settles)
    (λ q other. held q)

-- ---- files settle one after the other
settled-all : (old : State) (files : List ℕ) (messages : List Message) (new : State)
    → SettleInOrder old files messages new → AllHeldUp new
settled-all old [] messages new (held, none, e) = subst AllHeldUp (sym e) held
settled-all old (file ∷ files) messages new (rise, mid, first, more, are, settles, rest) =
    settled-all mid files more new rest

-- ---- calls
stays : (old new : State) → new ≡ old → AllHeldUp old → AllHeldUp new
stays old new e held = subst AllHeldUp (sym e) held

-- one list of what waits changes
relisted-waits : (old : State) (file : ℕ) (list : List Request)
    → AllByRecursion (IsHeldUp (of_file old.locks file)) list → AllHeldUp old
    → (q : ℕ) → AllByRecursion (IsHeldUp (of_file old.locks q)) (of_file (with_list old.waiting file list) q)
relisted-waits old file list here held =
    each-with old.waiting file list
    (λ q (l : List Request). AllByRecursion (IsHeldUp (of_file old.locks q)) l) here held

held-up : (old : State) (ctx : Ctx) (a : LockArguments) (by_message : Bool) (file : ℕ) (block waits : Bool)
    (s : NlmStatus)
    (messages : List Message) (new : State) → Conflicts (of_file old.locks file) (range_of a.lock) (Some a.exclusive)
    → HeldUp old ctx a by_message file block waits s messages new → AllHeldUp old → AllHeldUp new
held-up old ctx a by_message file false waits s messages new c step held = stays old new step.state_is held
held-up old ctx a by_message file true true s messages new c step held = stays old new step.state_is held
held-up old ctx a by_message file true false s messages new c (inl waits) held =
    let r : Request = record {
      number = waits.number;
      host = ctx.host;
      exclusive = a.exclusive;
      asked = a.lock;
      by_message = by_message;
    } in
    subst AllHeldUp (sym waits.answers.state_is) (relisted-waits old file (of_file old.waiting file ++ r ∷ [])
    (all-joined (IsHeldUp (of_file old.locks file)) (of_file old.waiting file) (r ∷ []) (held file) (c, tt)) held)
held-up old ctx a by_message file true false s messages new c (inr none) held = stays old new none.1.state_is held

locked : (old : State) (ctx : Ctx) (a : LockArguments) (by_message : Bool) (checked : Result ℕ LockFault)
    (s : NlmStatus)
    (messages : List Message) (new : State) → LockOf old ctx a by_message checked s messages new → AllHeldUp old →
    AllHeldUp new
locked old ctx a by_message (Err fault) s messages new step held = stays old new step.state_is held
locked old ctx a by_message (Ok file) s messages new (inl free) held =
    changed (ending_grants old file (range_of a.lock)) file (range_of a.lock) (Some a.exclusive) messages new free.2
    held
locked old ctx a by_message (Ok file) s messages new (inr up) held =
    held-up old ctx a by_message file a.block (list_any (is_request a.exclusive a.lock) (of_file old.waiting file)) s
    messages new up.0 up.1 held

cancels : (old : State) (file : ℕ) (goes : Request → Bool) (some : Bool) (s : NlmStatus) (messages : List Message)
    (new : State) → Cancels old file goes some s messages new → AllHeldUp old → AllHeldUp new
cancels old file goes true s messages new step held =
    let stay : Request → Bool = λ (r : Request). not (goes r) in
    subst AllHeldUp (sym step.state_is) (relisted-waits old file (filter stay (of_file old.waiting file))
    (all-left (IsHeldUp (of_file old.locks file)) (IsHeldUp (of_file old.locks file)) stay (of_file old.waiting file)
    (λ r e h. h) (held file)) held)
cancels old file goes false s messages new step held = stays old new step.state_is held

cancelled : (old : State) (a : CancelArguments) (checked : Result ℕ LockFault) (s : NlmStatus)
    (messages : List Message)
    (new : State) → CancelOf old a checked s messages new → AllHeldUp old → AllHeldUp new
cancelled old a (Err fault) s messages new step held = stays old new step.state_is held
cancelled old a (Ok file) s messages new step held =
    cancels old file (is_request a.exclusive a.lock)
    (list_any (is_request a.exclusive a.lock) (of_file old.waiting file)) s messages new step held

unlocked : (old : State) (a : UnlockArguments) (checked : Result ℕ LockFault) (s : NlmStatus)
    (messages : List Message)
    (new : State) → UnlockOf old a checked s messages new → AllHeldUp old → AllHeldUp new
unlocked old a (Err fault) s messages new step held = stays old new step.state_is held
unlocked old a (Ok file) s messages new step held =
    changed (ending_grants old file (range_of a.lock)) file (range_of a.lock) None messages new step.1 held

answered : (old : State) (number : ℕ) (found : Option PendingGrant) (s : NlmStatus) (messages : List Message)
    (new : State)
    → GrantEnds old number found s messages new → AllHeldUp old → AllHeldUp new
answered old number None s messages new step held = stays old new step.1 held
answered old number (Some grant) status.Granted messages new step held = subst AllHeldUp (sym step.1) held
answered old number (Some grant) s messages new step held =
    changed (record old { granted = remove old.granted number }) grant.file (requested grant.request) None messages new
    step held

shared : (old : State) (file : ℕ) (share : Share) (conflicts : Bool) (s : NlmStatus) (messages : List Message)
    (new : State) → ShareAnswers old file share conflicts s messages new → AllHeldUp old → AllHeldUp new
shared old file share true s messages new step held = stays old new step.state_is held
shared old file share false s messages new step held = subst AllHeldUp (sym step.state_is) held

share-held : (old : State) (asked : NlmShare) (checked : Result ℕ LockFault) (s : NlmStatus) (messages : List Message)
    (new : State) → ShareOf old asked checked s messages new → AllHeldUp old → AllHeldUp new
share-held old asked (Err fault) s messages new step held = stays old new step.state_is held
share-held old asked (Ok file) s messages new step held =
    shared old file (share_of asked) (one.is_denied (share_of asked) (of_file old.shares file)) s messages
    new step held

unshared : (old : State) (asked : NlmShare) (checked : Result ℕ LockFault) (s : NlmStatus) (messages : List Message)
    (new : State) → UnshareOf old asked checked s messages new → AllHeldUp old → AllHeldUp new
unshared old asked (Err fault) s messages new step held = stays old new step.state_is held
unshared old asked (Ok file) s messages new step held = subst AllHeldUp (sym step.state_is) held

tested : (old : State) (a : TestArguments) (checked : Result ℕ LockFault) (s : TestStatus) (messages : List Message)
    (new : State) → TestOf old a checked s messages new → AllHeldUp old → AllHeldUp new
tested old a (Err fault) s messages new step held = stays old new step.state_is held
tested old a (Ok file) s messages new step held = stays old new step.2 held

pub nlm-waits : (old : State) (ctx : Ctx) (call : NlmCall) (reply : NlmReply) (messages : List Message) (new : State)
    → NlmStep old ctx call reply messages new → AllHeldUp old → AllHeldUp new
unfolding NlmStep
nlm-waits old ctx calls.Null reply messages new step held = stays old new step.state_is held
nlm-waits old ctx (calls.Test a) reply messages new step held =
    tested old a (lock_checked old ctx false a.lock) step.0 messages new step.1 held
nlm-waits old ctx (calls.Lock a) reply messages new step held =
    locked old ctx a false (lock_checked old ctx a.exclusive a.lock) step.0 messages new step.1 held
nlm-waits old ctx (calls.Cancel a) reply messages new step held =
    cancelled old a (lock_checked old ctx false a.lock) step.0 messages new step.1 held
nlm-waits old ctx (calls.Unlock a) reply messages new step held =
    unlocked old a (lock_checked old ctx false a.lock) step.0 messages new step.1 held
nlm-waits old ctx (calls.Granted a) reply messages new step held = stays old new step.1.state_is held
nlm-waits old ctx (calls.TestMsg a) reply messages new step held =
    tested old a (lock_checked old ctx false a.lock) step.0 step.1 new step.2 held
nlm-waits old ctx (calls.LockMsg a) reply messages new step held =
    locked old ctx a true (lock_checked old ctx a.exclusive a.lock) step.0 step.1 new step.2 held
nlm-waits old ctx (calls.CancelMsg a) reply messages new step held =
    cancelled old a (lock_checked old ctx false a.lock) step.0 step.1 new step.2 held
nlm-waits old ctx (calls.UnlockMsg a) reply messages new step held =
    unlocked old a (lock_checked old ctx false a.lock) step.0 step.1 new step.2 held
nlm-waits old ctx (calls.GrantedMsg a) reply messages new step held = stays old new step.2.state_is held
nlm-waits old ctx (calls.TestRes r) reply messages new step held = stays old new step.state_is held
nlm-waits old ctx (calls.LockRes r) reply messages new step held = stays old new step.state_is held
nlm-waits old ctx (calls.CancelRes r) reply messages new step held = stays old new step.state_is held
nlm-waits old ctx (calls.UnlockRes r) reply messages new step held = stays old new step.state_is held
nlm-waits old ctx (calls.GrantedRes r) reply messages new step held =
    let number : ℕ = from_be_bytes w64 r.cookie in let found = get old.granted number in
    answered old number (if is_answered ctx.host r.cookie number found then found else None) r.status messages new
    step.1 held
nlm-waits old ctx (calls.Share a) reply messages new step held =
    share-held old a.share
    (file_checked old ctx a.share.file true (denies mode.DenyWrite a.share.access)) step.0 messages
    new step.1 held
nlm-waits old ctx (calls.Unshare a) reply messages new step held =
    unshared old a.share (file_checked old ctx a.share.file true false) step.0 messages new step.1 held
nlm-waits old ctx (calls.NmLock a) reply messages new step held =
    locked old ctx a false (lock_checked old ctx a.exclusive a.lock) step.0 messages new step.1 held
nlm-waits old ctx (calls.FreeAll a) reply messages new step held =
    settled-all _ (step.1).files messages new (step.1).settle
