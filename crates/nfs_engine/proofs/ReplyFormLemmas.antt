-- The reply of a step, and a refusal, has its form, and so do its messages.
use Rattle.std.proofs.Common.{◌≡◌, ℕ, List, [], ◌∷◌, Option, Some, None, IfSome, refl, sym, subst, arith}
use Rattle.side_wire.specs.declared.message.Message.{Message}
use Rattle.side_wire.specs.declared.mount.MountCall.TheVariants as mount
use Rattle.side_wire.specs.declared.mount.MountStatus.TheVariants as mount_status
use Rattle.side_wire.specs.declared.nlm.NlmCall.{NlmCall}
use Rattle.side_wire.specs.declared.nlm.NlmCall.TheVariants as nlm
use Rattle.side_wire.specs.declared.nlm.NlmReply.{NlmReply}
use Rattle.side_wire.specs.Nlm.{HasNlmForm}
use Rattle.nfs_wire.specs.declared.calls.NfsCall.{NfsCall}
use Rattle.nfs_wire.specs.declared.replies.NfsReply.{NfsReply}
use Rattle.nfs_machine.proofs.StateBoundsLemmas.{spelled_calls_fit}
use Rattle.nfs_machine.proofs.ShortReplyLemmas.{replies_short, refusals_short}
use Rattle.nfs_machine.proofs.SideReplyLemmas.{nlm_replies_form}
use Rattle.nfs_machine.specs.Laws.{IsShort}
use Rattle.nfs_machine.specs.Refusal.{nfs_refusal, nlm_refusal, refusal_of}
use Rattle.nfs_machine.specs.Run.{Arrival, FromHost, NewExports, Received, Setting, context_of}
use Rattle.nfs_machine.specs.SideLaws.{AskedFits, CallFits, NlmMessagesHaveForm}
use Rattle.nfs_machine.specs.State.{State}
use Rattle.nfs_machine.specs.Step.{Step}
use Rattle.nfs_machine.specs.WellFormed.{WellFormed}
use Rattle.nfs_machine.specs.declared.calls.Call.{Call}
use Rattle.nfs_machine.specs.declared.calls.Call.TheVariants as calls
use Rattle.nfs_machine.specs.declared.calls.Refusal.TheVariants as refusals
use Rattle.nfs_machine.specs.declared.calls.Reply.{Reply}
use Rattle.nfs_machine.specs.declared.calls.Reply.TheVariants as replies
use Rattle.nfs_machine.specs.declared.context.Ctx.{Ctx}
use Rattle.nfs_engine.proofs.StartBoundsLemmas.{mount-form}
use Rattle.nfs_engine.proofs.NlmSizes.{nlm-size}
use Rattle.nfs_engine.proofs.NoMessageLemmas.{mount-quiet, nfs-quiet, replace-quiet}
use Rattle.nfs_engine.proofs.AnswerSizes.{mount_refused_size}
use Rattle.nfs_engine.specs.Asked.{IsAsked, IsAskedBy}
use Rattle.nfs_engine.specs.Bounds.{IsWithinBounds}
use Rattle.nfs_engine.specs.Forms.{HasForm, RefusalHasForm}
use Rattle.nfs_engine.specs.Posting.{HaveForms}
use Rattle.nfs_engine.specs.declared.asking.Asked.{Asked}

-- what a call names is within its bounds, where that is NLM's
abbrev pub IsWithin : Call → Type 0
IsWithin (calls.Nlm call) = CallFits call
IsWithin call = Unit {0}

pub within-asked : (ctx : Ctx) (call : Call) → AskedFits ctx call → IsWithin call
within-asked ctx (calls.Nfs call) fits = tt
within-asked ctx (calls.Mount call) fits = tt
within-asked ctx (calls.Nlm call) fits = fits
within-asked ctx (calls.Replace exports) fits = tt

pub step_form : (old : State) (ctx : Ctx) (call : Call) (reply : Reply) (messages : List Message) (new : State) →
    IsWithin call → IsWithinBounds old → WellFormed old → Step old ctx call reply messages new → HasForm reply
step_form old ctx (calls.Nfs call) (replies.Nfs reply) messages new fits within formed step =
    replies_short old ctx call reply messages new formed step
step_form old ctx (calls.Mount call) (replies.Mount reply) messages new fits within formed step =
    mount-form old ctx call reply messages new within formed step
step_form old ctx (calls.Nlm call) (replies.Nlm reply) messages new fits within formed step =
    let form : HasNlmForm reply =
    nlm_replies_form old ctx call reply messages new (λ file. (within.locks file).0) fits step in
    (form, nlm-size reply form)
step_form old ctx (calls.Replace exports) replies.Replaced messages new fits within formed step = tt
step_form old ctx call reply messages new fits within formed step = absurd step

-- the messages that a step puts can be spelled: those of NLM by its law, and the others put none
pub step_messages : NlmMessagesHaveForm → (old : State) (ctx : Ctx) (call : Call) (reply : Reply)
    (messages : List Message) (new : State) → IsWithin call → IsWithinBounds old →
    Step old ctx call reply messages new → HaveForms messages
step_messages law old ctx (calls.Nfs call) (replies.Nfs reply) messages new fits within step =
    subst HaveForms (sym (nfs-quiet old ctx call reply messages new step)) tt
step_messages law old ctx (calls.Mount call) (replies.Mount reply) messages new fits within step =
    subst HaveForms (sym (mount-quiet old ctx call reply messages new step)) tt
step_messages law old ctx (calls.Nlm call) (replies.Nlm reply) messages new fits within step =
    (law old ctx call reply messages new within.locks fits step).0
step_messages law old ctx (calls.Replace exports) replies.Replaced messages new fits within step =
    subst HaveForms (sym (replace-quiet old ctx exports messages new step)) tt
step_messages law old ctx call reply messages new fits within step = absurd step

by_status : (call : NfsCall) (r : Option NfsReply) → nfs_refusal call ≡ r
    → RefusalHasForm (elim r [ None ↦ refusals.SystemError | Some reply ↦ refusals.Reply (replies.Nfs reply) ])
by_status call None is = tt
by_status call (Some reply) is = subst (λ (r : Option NfsReply). IfSome r IsShort) is (refusals_short call)

-- of a call of NLM by its cookie
by_cookie : (call : NlmCall) → CallFits call → IfSome (nlm_refusal call) HasNlmForm
by_cookie (nlm.Test a) fits = (fits.0, tt)
by_cookie (nlm.Lock a) fits = fits.0
by_cookie (nlm.Cancel a) fits = fits.0
by_cookie (nlm.Unlock a) fits = fits.0
by_cookie (nlm.Granted a) fits = fits.0
by_cookie (nlm.NmLock a) fits = fits.0
by_cookie (nlm.Share a) fits = fits
by_cookie (nlm.Unshare a) fits = fits
by_cookie nlm.Null fits = tt
by_cookie (nlm.TestMsg a) fits = tt
by_cookie (nlm.LockMsg a) fits = tt
by_cookie (nlm.CancelMsg a) fits = tt
by_cookie (nlm.UnlockMsg a) fits = tt
by_cookie (nlm.GrantedMsg a) fits = tt
by_cookie (nlm.TestRes r) fits = tt
by_cookie (nlm.LockRes r) fits = tt
by_cookie (nlm.CancelRes r) fits = tt
by_cookie (nlm.UnlockRes r) fits = tt
by_cookie (nlm.GrantedRes r) fits = tt
by_cookie (nlm.FreeAll a) fits = tt

by_reply : (r : Option NlmReply) → IfSome r HasNlmForm →
    RefusalHasForm (elim r [ None ↦ refusals.SystemError | Some reply ↦ refusals.Reply (replies.Nlm reply) ])
by_reply None form = tt
by_reply (Some reply) form = (form, nlm-size reply form)

-- a refusal has its form
pub refusal_form : (call : Call) → IsWithin call → RefusalHasForm (refusal_of call)
unfolding refusal_of
refusal_form (calls.Nfs call) fits = by_status call (nfs_refusal call) refl
refusal_form (calls.Mount (mount.Mnt path)) fits = (tt, omega (arith, mount_refused_size mount_status.ServerFault))
refusal_form (calls.Mount call) fits = tt
refusal_form (calls.Nlm call) fits = by_reply (nlm_refusal call) (by_cookie call fits)
refusal_form (calls.Replace exports) fits = tt

-- what a record asks is within its bounds, whoever sent it
asked-within : (bytes : List ℕ) (asked : Asked) → IsAsked bytes asked → IsWithin asked.call
asked-within bytes asked is = within-asked ctx asked.call (spelled_calls_fit setting (FromHost received) ctx asked.call
    (omega arith) (record { header = is.header; read = is.read; is_call = is.is_call; made_under = refl }))
  where
    setting : Setting
    setting = record { start = 0; limits = record { total_bytes = 0; name_key = [] } }

    received : Received
    received = record {
      host = 49 ∷ [];
      bytes = bytes;
      moment = record {
        seconds = 0;
        nanoseconds = 0;
        in_range = omega
            arith;
      };
    }

    ctx : Ctx
    ctx = context_of setting received.host is.header.ids received.moment

-- so its refusal has its form
pub asked-refusal : (bytes : List ℕ) (asked : Asked) → IsAsked bytes asked → RefusalHasForm (refusal_of asked.call)
asked-refusal bytes asked is = refusal_form asked.call (asked-within bytes asked is)

pub arrival-refusal : (arrival : Arrival) (asked : Asked) → IsAskedBy arrival asked →
    RefusalHasForm (refusal_of asked.call)
arrival-refusal (FromHost received) asked is = asked-refusal received.bytes asked is
arrival-refusal (NewExports exports moment) asked is =
    subst (λ (a : Asked). RefusalHasForm (refusal_of a.call)) (sym is) (refusal_form (calls.Replace exports) tt)
