-- What changes the object that a handle names, and shows it before and after, is a step.
use Rattle.std.proofs.Common.{◌≡◌, ℕ, List, [], Some, None, Result, Err, refl, sym, ap, ◌∙◌}
use Rattle.nfs_wire.specs.declared.attributes.Wcc.{Wcc}
use Rattle.nfs_wire.specs.declared.calls.NfsCall.{NfsCall}
use Rattle.nfs_wire.specs.declared.calls.NfsCall.TheVariants as nfs
use Rattle.nfs_wire.specs.declared.calls.SetattrArguments.{SetattrArguments}
use Rattle.nfs_wire.specs.declared.calls.WriteArguments.{WriteArguments}
use Rattle.nfs_wire.specs.declared.replies.NfsReply.{NfsReply}
use Rattle.nfs_wire.specs.declared.replies.NfsReply.TheVariants as replies
use Rattle.nfs_wire.specs.declared.status.NfsStatus.{NfsStatus}
use Rattle.nfs_machine.specs.Answers.{Ends, answer_of, state_after}
use Rattle.nfs_machine.specs.AttributeSteps.{setattr_end}
use Rattle.nfs_machine.specs.Checks.{object_of}
use Rattle.nfs_machine.specs.DataSteps.{write_end}
use Rattle.nfs_machine.specs.NfsSteps.{NfsStep}
use Rattle.nfs_machine.specs.Resolve.{resolve}
use Rattle.nfs_machine.specs.Shown.{attributes_at, wcc}
use Rattle.nfs_machine.specs.State.{State}
use Rattle.nfs_machine.specs.declared.calls.Call.TheVariants as calls
use Rattle.nfs_machine.specs.declared.calls.Reply.TheVariants as answers
use Rattle.nfs_machine.specs.declared.context.Ctx.{Ctx}
use Rattle.nfs_objects.proofs.KnowsLemmas.{failed}
use Rattle.nfs_objects.proofs.PromiseLemmas.{answer-ending, promised-does, promised-unchanged}
use Rattle.nfs_objects.specs.Begins.{Begins}
use Rattle.nfs_objects.specs.Knows.{Does, Knows, ending}
use Rattle.nfs_objects.specs.Promise.{Given, Held, IsPromised}
use Rattle.nfs_objects.specs.Values.{DraftValue, done_value}
use Rattle.nfs_inodes.specs.Known.{Names, NamesNothing, weak_of}
use Rattle.nfs_inodes.specs.declared.found.Known.{Known}

-- the procedure comes to this end, and shows the object that a handle names before it and after it
pub record ChangedBy {A : Type 0} (call : NfsCall) (handle : List ℕ)
    (reply_of : Wcc → Result A NfsStatus → NfsReply)
    (end_of : State → Ctx → Result (A × State) NfsStatus) : Type 0 where
  pub is_step : (m new : State) (ctx : Ctx) (reply : NfsReply)
      → Ends m (λ after result. reply_of (wcc after (resolve m ctx handle)) result) (end_of m ctx) reply [] new
      → NfsStep m ctx call reply [] new
  pub refuses : (m : State) (ctx : Ctx) (e : NfsStatus) → object_of (resolve m ctx handle) ≡ Err e
      → end_of m ctx ≡ Err e

module _ {A : Type 0} {call : NfsCall} {handle : List ℕ} {reply_of : Wcc → Result A NfsStatus → NfsReply}
    {end_of : State → Ctx → Result (A × State) NfsStatus} (by : ChangedBy call handle reply_of end_of)
    (d : DraftValue) (begins : Begins (calls.Nfs call) d) where
  abbrev pub IsAnswer : DraftValue → Wcc → Result A NfsStatus → Type 0
  IsAnswer new shown result = IsPromised (done_value (calls.Nfs call) d.ctx d.view (record {
    writes = new.writes;
    messages = new.messages;
    reply = answers.Nfs (reply_of shown result);
  }))

  changed-step : (m new : State) (shown : Wcc) (result : Result A NfsStatus) (end : Result (A × State) NfsStatus)
      → end ≡ end_of m d.ctx → shown ≡ wcc (state_after m end) (resolve m d.ctx handle)
      → result ≡ answer_of end
      → new ≡ state_after m end
      → NfsStep m d.ctx call (reply_of shown result) [] new
  changed-step m new shown result end is shows answers state = by.is_step m new d.ctx _ (record {
    reply_is = ap (λ x. reply_of x result) shows
        ∙ ap (reply_of (wcc (state_after m end) (resolve m d.ctx handle))) answers
        ∙ ap (λ e. reply_of (wcc (state_after m e) (resolve m d.ctx handle)) (answer_of e)) is;
    no_message = refl;
    state_is = state ∙ ap (state_after m) is;
  })

  pub changed-promised : (new : DraftValue) (x : Known) (shown : Wcc) (result : Result A NfsStatus)
      → Held new.view new.writes → Given new.view new.writes
      → Knows d (λ k. Names d.ctx handle k x) → Does d new (λ m end. end ≡ end_of m d.ctx) result
      → Knows new (λ k. shown ≡ record { before = Some (weak_of x); after = attributes_at k.state x.number })
      → IsAnswer new shown result
  changed-promised new x shown result held given names does shows =
      promised-does d new begins.none begins.quiet (λ m end. end ≡ end_of m d.ctx) result does (calls.Nfs call) _
      held given (λ s k m w now same state ends.
      let end = ending result (does.op k).state in
      changed-step k.state m shown result end ends
      (shows s (does.op k) now
      ∙ ap (λ (m : State). record { before = Some (weak_of x); after = attributes_at m x.number }) (does.stays k)
      ∙ sym ((names s k w).wcc_after (state_after k.state end)))
      (sym (answer-ending result (does.op k).state)) state)

  pub refused-promised : (e : NfsStatus) → Held d.view d.writes → Given d.view d.writes
      → Knows d (λ k. NamesNothing d.ctx handle k e)
      → IsAnswer d (record { before = None; after = None }) (Err e)
  refused-promised e held given refused =
      promised-unchanged d begins.none begins.quiet (calls.Nfs call) _ held given (λ s k w formed.
      changed-step k.state k.state _ (Err e) (Err e) (sym (by.refuses k.state d.ctx e (refused s k w).refused))
      (sym ((refused s k w).wcc_after k.state)) refl refl)

-- ---- the procedures
pub write-changes : (a : WriteArguments) → ChangedBy (nfs.Write a) a.file
    (λ shown result. replies.Write (record { wcc = shown; result = result })) (λ m ctx. write_end m ctx a)
unfolding NfsStep
write-changes a = record { is_step = λ m new ctx reply is. is; refuses = λ m ctx e is. failed _ is }

pub setattr-changes : (a : SetattrArguments) → ChangedBy (nfs.Setattr a) a.object
    (λ shown result. replies.Setattr (record { wcc = shown; result = result })) (λ m ctx. setattr_end m ctx a)
unfolding NfsStep
setattr-changes a = record { is_step = λ m new ctx reply is. is; refuses = λ m ctx e is. failed _ is }
