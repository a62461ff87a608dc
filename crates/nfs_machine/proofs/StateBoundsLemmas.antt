-- What is mounted, held and waited for stays within the bounds of MOUNT and NLM, whatever is called.
use Rattle.std.proofs.Common.{◌≡◌, ℕ, true, false, cond, List, [], ◌∷◌, ◌++◌, Result, Ok, Err}
use Rattle.std.proofs.Common.{inl, inr, refl, sym, ap, subst}
use Rattle.std.specs.List.{AllByRecursion}
use Rattle.nfs_xdr.specs.Types.{Spells}
use Rattle.side_wire.specs.Messages.{HasLockForm}
use Rattle.side_wire.specs.Mount.{IsDirpath, IsHostName, SpellsMountArguments}
use Rattle.side_wire.specs.Nlm.{SpellsNlmArguments}
use Rattle.side_wire.specs.NlmTypes.{lock_value, nlm4_lock}
use Rattle.side_wire.specs.declared.message.Message.{Message}
use Rattle.side_wire.specs.declared.message.NlmLock.{NlmLock}
use Rattle.side_wire.specs.declared.mount.MountCall.{MountCall}
use Rattle.side_wire.specs.declared.mount.MountCall.TheVariants as mount
use Rattle.side_wire.specs.declared.mount.MountReply.{MountReply}
use Rattle.side_wire.specs.declared.mount.MountStatus.{MountStatus}
use Rattle.side_wire.specs.declared.nlm.NlmCall.{NlmCall}
use Rattle.side_wire.specs.declared.nlm.NlmCall.TheVariants as nlm
use Rattle.nfs_rpc.specs.declared.programs.Program.{Program}
use Rattle.nfs_machine.specs.MountSteps.{MntAnswers, MountStep, is_mounted, newest}
use Rattle.nfs_machine.specs.Run.{FromHost, NewExports, IsCall}
use Rattle.nfs_machine.specs.Exports.{ExportValue}
use Rattle.nfs_machine.specs.Replacing.{ReplaceStep}
use Rattle.nfs_machine.specs.Times.{time_of}
use Rattle.nfs_machine.proofs.ReplacedStateLemmas.{bounds-kept, same-or-replaced}
use Rattle.nfs_machine.specs.SideLaws.{AskedFits, CallFits, LocksFit, LocksStayFit, MountsFit, MountsStayFit}
use Rattle.nfs_machine.specs.SideLaws.{OpeningFits, OwnersFit, PathFits, ChainsStayFit, SpelledCallsFit}
use Rattle.nfs_machine.specs.State.{Request, State}
use Rattle.nfs_machine.specs.declared.calls.Call.{Call}
use Rattle.nfs_machine.specs.declared.calls.Call.TheVariants as calls
use Rattle.nfs_machine.specs.declared.calls.Reply.TheVariants as replies
use Rattle.nfs_machine.specs.declared.context.Ctx.{Ctx}
use Rattle.nfs_machine.proofs.StepKeepsLemmas.{nfs-follows}
use Rattle.nfs_machine.proofs.NlmStepLemmas.{nlm-touches}
use Rattle.nfs_machine.proofs.OpeningStateLemmas.{none_of}
use Rattle.nfs_machine.proofs.PostedFormLemmas.{nlm_messages_form}
use Rattle.nfs_machine.proofs.SideReplyLemmas.{mount_fits}
use Rattle.side_wire.specs.declared.mount.lists.MountBody.{MountBody}

-- ---- calls that are spelled
spelled-lock : (l : NlmLock) (bytes : List ℕ) → Spells nlm4_lock (lock_value l) bytes → HasLockForm l
spelled-lock l bytes s = (s.3.0, s.4.3.0, s.4.4.3.0)

spelled-path : (call : MountCall) (bytes : List ℕ) → SpellsMountArguments call bytes → PathFits call
spelled-path mount.Null bytes s = tt
spelled-path (mount.Mnt path) bytes s = s.0
spelled-path mount.Dump bytes s = tt
spelled-path (mount.Unmount path) bytes s = tt
spelled-path mount.UnmountAll bytes s = tt
spelled-path mount.Export bytes s = tt

spelled-call : (call : NlmCall) (bytes : List ℕ) → SpellsNlmArguments call bytes → CallFits call
spelled-call nlm.Null bytes s = tt
spelled-call (nlm.Test a) bytes s = (s.3.0, spelled-lock a.lock s.4.1 s.4.4)
spelled-call (nlm.Lock a) bytes s = (s.3.0, spelled-lock a.lock s.4.4.4.0 s.4.4.4.3)
spelled-call (nlm.Cancel a) bytes s = (s.3.0, spelled-lock a.lock s.4.4.1 s.4.4.4)
spelled-call (nlm.Unlock a) bytes s = (s.3.0, spelled-lock a.lock s.1 s.4)
spelled-call (nlm.Granted a) bytes s = (s.3.0, spelled-lock a.lock s.4.1 s.4.4)
spelled-call (nlm.TestMsg a) bytes s = (s.3.0, spelled-lock a.lock s.4.1 s.4.4)
spelled-call (nlm.LockMsg a) bytes s = (s.3.0, spelled-lock a.lock s.4.4.4.0 s.4.4.4.3)
spelled-call (nlm.CancelMsg a) bytes s = (s.3.0, spelled-lock a.lock s.4.4.1 s.4.4.4)
spelled-call (nlm.UnlockMsg a) bytes s = (s.3.0, spelled-lock a.lock s.1 s.4)
spelled-call (nlm.GrantedMsg a) bytes s = (s.3.0, spelled-lock a.lock s.4.1 s.4.4)
spelled-call (nlm.TestRes r) bytes s = tt
spelled-call (nlm.LockRes r) bytes s = tt
spelled-call (nlm.CancelRes r) bytes s = tt
spelled-call (nlm.UnlockRes r) bytes s = tt
spelled-call (nlm.GrantedRes r) bytes s = tt
spelled-call (nlm.Share a) bytes s = s.3.0
spelled-call (nlm.Unshare a) bytes s = s.3.0
spelled-call (nlm.NmLock a) bytes s = (s.3.0, spelled-lock a.lock s.4.4.4.0 s.4.4.4.3)
spelled-call (nlm.FreeAll a) bytes s = tt

spelled : (ctx : Ctx) (program : Program) (procedure : ℕ) (bytes : List ℕ) (call : Call) → IsHostName ctx.host →
    IsCall program procedure bytes call → AskedFits ctx call
spelled ctx program procedure bytes (calls.Nfs call) host is = tt
spelled ctx program procedure bytes (calls.Mount call) host is = (host, spelled-path call is.2.0 is.2.3)
spelled ctx program procedure bytes (calls.Nlm call) host is = spelled-call call is.2.0 is.2.3
spelled ctx program procedure bytes (calls.Replace exports) host is = absurd is

pub spelled_calls_fit : SpelledCallsFit
spelled_calls_fit setting (FromHost received) ctx call host asks =
    spelled ctx asks.header.program asks.header.procedure asks.header.arguments call
    (subst IsHostName (sym (ap (λ (c : Ctx). c.host) asks.made_under)) host) asks.is_call
spelled_calls_fit setting (NewExports exports moment) ctx call host asks =
    subst (λ (c : Call). AskedFits ctx c) (sym asks.0) tt

-- ---- MOUNT leaves locks as they are
mnt-locks : (old : State) (ctx : Ctx) (path : List ℕ) (result : Result (List ℕ) MountStatus) (new : State) →
    MntAnswers old ctx path result new → LocksFit old → LocksFit new
mnt-locks old ctx path (Ok handle) new (found, target, is, same) fit =
    let x : MountBody = record { hostname = ctx.host; directory = path } in
    subst LocksFit (sym same)
    (elim (is_mounted old.mounts x) as
    (λ b. LocksFit (cond b old (record old { mounts = newest (old.mounts ++ x ∷ []) }))) [
      | true ↦ fit
      | false ↦ fit
    ])
mnt-locks old ctx path (Err e) new (why, same) fit = subst LocksFit (sym same) fit

mount-locks : (old : State) (ctx : Ctx) (call : MountCall) (reply : MountReply) (messages : List Message)
    (new : State) → MountStep old ctx call reply messages new → LocksFit old → LocksFit new
unfolding MountStep
mount-locks old ctx mount.Null reply messages new step fit = subst LocksFit (sym step.state_is) fit
mount-locks old ctx (mount.Mnt path) reply messages new step fit = mnt-locks old ctx path step.0 new step.3 fit
mount-locks old ctx mount.Dump reply messages new step fit = subst LocksFit (sym step.state_is) fit
mount-locks old ctx (mount.Unmount path) reply messages new step fit = subst LocksFit (sym step.state_is) fit
mount-locks old ctx mount.UnmountAll reply messages new step fit = subst LocksFit (sym step.state_is) fit
mount-locks old ctx mount.Export reply messages new step fit = subst LocksFit (sym step.state_is) fit

-- ---- steps and runs
same-mounts : (old new : State) → new.mounts ≡ old.mounts → MountsFit old → MountsFit new
same-mounts old new same fit = subst
    (λ (mounts : List MountBody). AllByRecursion
    (λ (x : MountBody). IsHostName x.hostname × IsDirpath x.directory) mounts) (sym same) fit

-- ---- other exports leave mounts, and locks are those of what stays
replaced-mounts : (old : State) (ctx : Ctx) (exports : List ExportValue) (messages : List Message) (new : State)
    → ReplaceStep old ctx exports messages new → new.mounts ≡ old.mounts
replaced-mounts old ctx exports messages new step = elim (same-or-replaced old ctx exports messages new step) [
  | inl same ↦ ap (λ (m : State). m.mounts) same
  | inr r ↦ ap (λ (m : State). m.mounts) r.replaces.state_is
]

replaced-locks : (old : State) (ctx : Ctx) (exports : List ExportValue) (messages : List Message) (new : State)
    → ReplaceStep old ctx exports messages new → LocksFit old → LocksFit new
replaced-locks old ctx exports messages new step fit = elim (same-or-replaced old ctx exports messages new step) [
  | inl same ↦ subst LocksFit (sym same) fit
  | inr r ↦ subst LocksFit (sym r.replaces.state_is)
      (bounds-kept old exports r.replaces.choose r.replaces.spent (time_of ctx.moment) r.replaces.fresh fit)
]

pub mounts_stay_fit : MountsStayFit
mounts_stay_fit old ctx (calls.Nfs call) (replies.Nfs reply) messages new step asked fit = same-mounts old new
    (nfs-follows old ctx call reply messages new step).mounts fit
mounts_stay_fit old ctx (calls.Mount call)
    (replies.Mount reply) messages new step asked fit = mount_fits old ctx call reply messages new fit asked.0 asked.1
    step
mounts_stay_fit old ctx (calls.Nlm call) (replies.Nlm reply) messages new step asked fit = same-mounts old new
    (nlm-touches old ctx call reply messages new step).mounts fit
mounts_stay_fit old ctx (calls.Replace exports) replies.Replaced messages new step asked fit =
    same-mounts old new (replaced-mounts old ctx exports messages new step) fit
mounts_stay_fit old ctx call reply messages new step asked fit = absurd step

pub locks_stay_fit : LocksStayFit
locks_stay_fit old ctx (calls.Nfs call) (replies.Nfs reply) messages new step asked fit =
    (nfs-follows old ctx call reply messages new step).bounds fit
locks_stay_fit old ctx (calls.Mount call)
    (replies.Mount reply) messages new step asked fit = mount-locks old ctx call reply messages new step fit
locks_stay_fit old ctx (calls.Nlm call) (replies.Nlm reply) messages new step asked fit =
    (nlm_messages_form old ctx call reply messages new fit asked step).1
locks_stay_fit old ctx (calls.Replace exports) replies.Replaced messages new step asked fit =
    replaced-locks old ctx exports messages new step fit
locks_stay_fit old ctx call reply messages new step asked fit = absurd step

pub opening_fits : OpeningFits
opening_fits exports moment = (
  tt,
  λ file. (
    subst OwnersFit (sym (none_of file)) (λ owner offset has. absurd (has refl)),
    subst (AllByRecursion (λ (r : Request). HasLockForm r.asked)) (sym (none_of file)) tt,
  ),
)

pub chains_stay_fit : ChainsStayFit
chains_stay_fit first last [] chain asked fit = subst (λ (m : State). MountsFit m × LocksFit m) (sym chain) fit
chains_stay_fit first last (t ∷ steps) (mid, step, rest) asked fit = chains_stay_fit mid last steps rest asked.1 (
  mounts_stay_fit first t.ctx t.call t.reply t.messages mid step asked.0 fit.0,
  locks_stay_fit first t.ctx t.call t.reply t.messages mid step asked.0 fit.1,
)
