-- What a server is started with, and what its calls mount, is within the bounds of MOUNT; and so its replies have a
-- form, which one fragment holds.
use Rattle.std.proofs.Common.{ℕ, ◌+◌, ◌*◌, ◌≤◌, true, false, cond, List, [], ◌∷◌, length, sym, subst, arith}
use Rattle.std.proofs.lemmas.List.Sums.{sum_by-cons}
use Rattle.std.specs.List.{AllByRecursion, list_any, sum_by}
use Rattle.side_wire.specs.declared.message.Message.{Message}
use Rattle.side_wire.specs.declared.mount.MountCall.TheVariants as mount
use Rattle.side_wire.specs.declared.mount.MountCall.{MountCall}
use Rattle.side_wire.specs.declared.mount.MountReply.{MountReply}
use Rattle.nfs_machine.specs.Bytes.{same_bytes}
use Rattle.nfs_machine.specs.ExportFaults.{AreFaultless}
use Rattle.nfs_machine.specs.Exports.{ExportValue, LivingExport, every_host, numbered_exports}
use Rattle.nfs_machine.specs.MountLaws.{exported_bytes, most_bytes}
use Rattle.nfs_machine.specs.MountSteps.{MountStep, listed_exports}
use Rattle.nfs_machine.specs.Opening.{opening}
use Rattle.nfs_machine.specs.SideLaws.{AskedFits, ExportsFit}
use Rattle.nfs_machine.specs.State.{State}
use Rattle.nfs_machine.specs.Step.{Step}
use Rattle.nfs_machine.specs.WellFormed.{WellFormed}
use Rattle.nfs_machine.specs.declared.calls.Call.{Call}
use Rattle.nfs_machine.specs.declared.calls.Reply.TheVariants as replies
use Rattle.nfs_machine.specs.declared.calls.Reply.{Reply}
use Rattle.nfs_machine.specs.declared.context.Ctx.{Ctx}
use Rattle.nfs_machine.specs.declared.moment.Moment.{Moment}
use Rattle.nfs_machine.proofs.ExportBoundsLemmas.{HasBounds, faultless-bound}
use Rattle.nfs_machine.proofs.StateBoundsLemmas.{locks_stay_fit, mounts_stay_fit, opening_fits}
use Rattle.nfs_machine.proofs.StepKeepsLemmas.{steps_keep_within}
use Rattle.nfs_machine.proofs.MountSizes.{mount_replies_bounded}
use Rattle.nfs_machine.proofs.SideReplyLemmas.{mount_replies_form}
use Rattle.nfs_engine.specs.Bounds.{IsWithinBounds}
use Rattle.nfs_engine.specs.Forms.{HasForm}

-- ---- exports without fault
abbrev FewHosts : List LivingExport → Type 0
FewHosts exports = AllByRecursion (λ (e : LivingExport). length e.hosts ≤ 1024) exports

numbered-bound : (number : ℕ) (es : List ExportValue) → AllByRecursion HasBounds es →
    ExportsFit (numbered_exports number es) × FewHosts (numbered_exports number es)
numbered-bound number [] all = (tt, tt)
numbered-bound number (e ∷ es) all =
    let rest = numbered-bound (number + 1) es all.1 in
    let own = all.0 in (((own.0, own.1), rest.0), (own.2, rest.1))

pub opening-within : (es : List ExportValue) (moment : Moment) → AreFaultless es →
    IsWithinBounds (opening es moment)
opening-within es moment faultless =
    let all = numbered-bound 1 es (faultless-bound es faultless) in
    record { mounts = tt; locks = (opening_fits es moment).1; exports = all.0; hosts = all.1 }

-- ---- steps
pub step-within : (old : State) (ctx : Ctx) (call : Call) (reply : Reply) (messages : List Message) (new : State) →
    Step old ctx call reply messages new → AskedFits ctx call → IsWithinBounds old → IsWithinBounds new
step-within old ctx call reply messages new step asked within =
    let listed = steps_keep_within old ctx call reply messages new step (within.exports, within.hosts) in
    record {
      mounts = mounts_stay_fit old ctx call reply messages new step asked within.mounts;
      locks = locks_stay_fit old ctx call reply messages new step asked within.locks;
      exports = listed.0;
      hosts = listed.1;
    }

-- ---- replies
exports-size : (exports : List LivingExport) → FewHosts exports →
    sum_by exported_bytes (listed_exports exports) ≤ 271372 * length exports
exports-size [] few = omega arith
exports-size (e ∷ exports) few =
    let groups : length (cond (list_any (λ h. same_bytes h every_host) e.hosts) [] e.hosts) ≤ 1024 =
    elim (list_any (λ h. same_bytes h every_host) e.hosts) as (λ b. length (cond b [] e.hosts) ≤ 1024) [
      | true ↦ omega arith
      | false ↦ few.0
    ] in
    omega (
      arith,
      groups,
      exports-size exports few.1,
      sum_by-cons exported_bytes (record {
        directory = e.path;
        groups = cond (list_any (λ h. same_bytes h every_host) e.hosts) [] e.hosts;
      }) (listed_exports exports),
    )

-- the most that a reply may have is below what a fragment holds
replies-bound : (old : State) (ctx : Ctx) (call : MountCall) (reply : MountReply) (messages : List Message)
    (new : State) → IsWithinBounds old → WellFormed old → MountStep old ctx call reply messages new →
    most_bytes reply ≤ 100000000
unfolding MountStep
replies-bound old ctx mount.Null reply messages new within formed step =
    subst (λ (r : MountReply). most_bytes r ≤ 100000000) (sym step.reply_is) (omega arith)
replies-bound old ctx (mount.Mnt path) reply messages new within formed step =
    subst (λ (r : MountReply). most_bytes r ≤ 100000000) (sym step.1) (omega arith)
replies-bound old ctx mount.Dump reply messages new within formed step =
    subst (λ (r : MountReply). most_bytes r ≤ 100000000) (sym step.reply_is) (omega (arith, formed.mounts.few))
replies-bound old ctx (mount.Unmount path) reply messages new within formed step =
    subst (λ (r : MountReply). most_bytes r ≤ 100000000) (sym step.reply_is) (omega arith)
replies-bound old ctx mount.UnmountAll reply messages new within formed step =
    subst (λ (r : MountReply). most_bytes r ≤ 100000000) (sym step.reply_is) (omega arith)
replies-bound old ctx mount.Export reply messages new within formed step =
    subst (λ (r : MountReply). most_bytes r ≤ 100000000) (sym step.reply_is)
    (omega (arith, exports-size old.exports within.hosts, formed.exports.few))

pub mount-form : (old : State) (ctx : Ctx) (call : MountCall) (reply : MountReply) (messages : List Message)
    (new : State) → IsWithinBounds old → WellFormed old → MountStep old ctx call reply messages new →
    HasForm (replies.Mount reply)
mount-form old ctx call reply messages new within formed step = (
  mount_replies_form old ctx call reply messages new within.mounts within.exports step,
  omega (
    arith,
    mount_replies_bounded old ctx call reply messages new within.mounts within.exports step,
    replies-bound old ctx call reply messages new within formed step,
  ),
)
