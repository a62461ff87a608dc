-- The answers of NULL and GETATTR are steps.
use Rattle.std.proofs.Common.{◌≡◌, ℕ, List, [], Result, Ok, Err, refl, sym, ap, ◌∙◌}
use Rattle.nfs_wire.specs.declared.attributes.Attributes.{Attributes}
use Rattle.nfs_wire.specs.declared.calls.NfsCall.TheVariants as nfs
use Rattle.nfs_wire.specs.declared.replies.NfsReply.TheVariants as replies
use Rattle.nfs_wire.specs.declared.status.NfsStatus.{NfsStatus}
use Rattle.nfs_machine.specs.Attributes.{attributes_of}
use Rattle.nfs_machine.specs.Checks.{◌>>=◌, object_of}
use Rattle.nfs_machine.specs.NfsSteps.{NfsStep}
use Rattle.nfs_machine.specs.Resolve.{resolve}
use Rattle.nfs_machine.specs.State.{State}
use Rattle.nfs_machine.specs.declared.calls.Call.TheVariants as calls
use Rattle.nfs_machine.specs.declared.calls.Reply.TheVariants as answers
use Rattle.nfs_machine.specs.declared.context.Ctx.{Ctx}
use Rattle.nfs_objects.proofs.KnowsLemmas.{failed, passed}
use Rattle.nfs_objects.proofs.PromiseLemmas.{promised-unchanged}
use Rattle.nfs_objects.specs.Begins.{Begins}
use Rattle.nfs_objects.specs.Knows.{Knows}
use Rattle.nfs_objects.specs.Promise.{Given, Held, IsPromised}
use Rattle.nfs_objects.specs.Stands.{StoreMeaning}
use Rattle.nfs_objects.specs.Values.{DraftValue, done_value}
use Rattle.nfs_inodes.specs.Known.{Means}
use Rattle.nfs_inodes.specs.declared.found.Known.{Known}

null-step : (m : State) (ctx : Ctx) → NfsStep m ctx nfs.Null replies.Null [] m
unfolding NfsStep
null-step m ctx = record { reply_is = refl; no_message = refl; state_is = refl }

pub null-promised : (d : DraftValue) → Begins (calls.Nfs nfs.Null) d → Held d.view d.writes
    → Given d.view d.writes
    → IsPromised (done_value (calls.Nfs nfs.Null) d.ctx d.view (record
    { writes = d.writes; messages = d.messages; reply = answers.Nfs replies.Null }))
null-promised d begins held given =
    promised-unchanged d begins.none begins.quiet (calls.Nfs nfs.Null) (answers.Nfs replies.Null) held given
    (λ s k w formed. null-step k.state d.ctx)

-- what GETATTR tells of what a handle names
abbrev told : State → Ctx → List ℕ → Result Attributes NfsStatus
told m ctx object = object_of (resolve m ctx object) >>= λ o. Ok (attributes_of m o.number o.object)

getattr-step : (m : State) (ctx : Ctx) (object : List ℕ) (result : Result Attributes NfsStatus)
    → told m ctx object ≡ result → NfsStep m ctx (nfs.Getattr object) (replies.Getattr result) [] m
unfolding NfsStep
getattr-step m ctx object result is = record {
  reply_is = ap (λ r. replies.Getattr r) (sym is);
  no_message = refl;
  state_is = refl;
}

abbrev pub attributes_in : Result Known NfsStatus → Result Attributes NfsStatus
attributes_in found = elim found [ Ok x ↦ Ok x.attributes | Err e ↦ Err e ]

tells : (ctx : Ctx) (object : List ℕ) (k : StoreMeaning) (found : Result Known NfsStatus) → Means ctx object found k
    → told k.state ctx object ≡ attributes_in found
tells ctx object k (Ok x) means = passed _ means.names (ap (λ a. Ok a) (sym (means.known).shows))
tells ctx object k (Err e) means = failed _ means.refused

pub getattr-promised : (d : DraftValue) (object : List ℕ) (found : Result Known NfsStatus)
    (result : Result Attributes NfsStatus) → Begins (calls.Nfs (nfs.Getattr object)) d
    → Held d.view d.writes → Given d.view d.writes → Knows d (Means d.ctx object found)
    → attributes_in found ≡ result
    → IsPromised (done_value (calls.Nfs (nfs.Getattr object)) d.ctx d.view
    (record { writes = d.writes; messages = d.messages; reply = answers.Nfs (replies.Getattr result) }))
getattr-promised d object found result begins held given means is =
    promised-unchanged d begins.none begins.quiet (calls.Nfs (nfs.Getattr object))
    (answers.Nfs (replies.Getattr result)) held given (λ s k w formed.
    getattr-step k.state d.ctx object result (tells d.ctx object k found (means s k w) ∙ is))
