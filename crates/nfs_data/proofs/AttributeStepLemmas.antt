-- What tells something of the object that a handle names, beside its attributes, is a step.
use Rattle.std.proofs.Common.{◌≡◌, List, [], ℕ, Option, Some, None, Result, Ok, Err, refl, sym, ap, ◌∙◌}
use Rattle.nfs_wire.specs.declared.attributes.Attributes.{Attributes}
use Rattle.nfs_wire.specs.declared.calls.AccessArguments.{AccessArguments}
use Rattle.nfs_wire.specs.declared.calls.NfsCall.{NfsCall}
use Rattle.nfs_wire.specs.declared.calls.NfsCall.TheVariants as nfs
use Rattle.nfs_wire.specs.declared.calls.ReadArguments.{ReadArguments}
use Rattle.nfs_wire.specs.declared.replies.NfsReply.{NfsReply}
use Rattle.nfs_wire.specs.declared.replies.NfsReply.TheVariants as replies
use Rattle.nfs_wire.specs.declared.status.NfsStatus.{NfsStatus}
use Rattle.nfs_machine.specs.Answers.{TellsOfObject}
use Rattle.nfs_machine.specs.AttributeSteps.{granted}
use Rattle.nfs_machine.specs.Checks.{◌>>=◌, object_of, text_in}
use Rattle.nfs_machine.specs.DataSteps.{read_object}
use Rattle.nfs_machine.specs.FileSystemSteps.{file_system, path_limits}
use Rattle.nfs_machine.specs.NfsSteps.{NfsStep}
use Rattle.nfs_machine.specs.Resolve.{Named, resolve}
use Rattle.nfs_machine.specs.Shown.{shown}
use Rattle.nfs_machine.specs.State.{State}
use Rattle.nfs_machine.specs.declared.calls.Call.TheVariants as calls
use Rattle.nfs_machine.specs.declared.calls.Reply.TheVariants as answers
use Rattle.nfs_machine.specs.declared.context.Ctx.{Ctx}
use Rattle.nfs_objects.proofs.KnowsLemmas.{failed, passed}
use Rattle.nfs_objects.proofs.PromiseLemmas.{promised-unchanged}
use Rattle.nfs_objects.specs.Begins.{Begins}
use Rattle.nfs_objects.specs.Knows.{Knows}
use Rattle.nfs_objects.specs.Promise.{Given, Held, IsPromised}
use Rattle.nfs_objects.specs.Values.{DraftValue, done_value}
use Rattle.nfs_inodes.specs.Known.{Names, NamesNothing, target}
use Rattle.nfs_inodes.specs.declared.found.Known.{Known}

-- the procedure tells this of the object that a handle names
pub record ToldBy {A : Type 0} (call : NfsCall) (handle : List ℕ)
    (reply_of : Option Attributes → Result A NfsStatus → NfsReply)
    (told : State → Ctx → Named → Result A NfsStatus) : Type 0 where
  pub is_step : (m : State) (ctx : Ctx) (reply : NfsReply)
      → TellsOfObject m ctx handle reply_of (told m ctx) reply [] m
      → NfsStep m ctx call reply [] m

module _ {A : Type 0} {call : NfsCall} {handle : List ℕ}
    {reply_of : Option Attributes → Result A NfsStatus → NfsReply}
    {told : State → Ctx → Named → Result A NfsStatus} (by : ToldBy call handle reply_of told)
    (d : DraftValue) (begins : Begins (calls.Nfs call) d) (held : Held d.view d.writes)
    (given : Given d.view d.writes) where
  abbrev pub IsAnswer : Option Attributes → Result A NfsStatus → Type 0
  IsAnswer attributes result = IsPromised (done_value (calls.Nfs call) d.ctx d.view (record {
    writes = d.writes;
    messages = d.messages;
    reply = answers.Nfs (reply_of attributes result);
  }))

  told-step : (m : State) (attributes : Option Attributes) (result : Result A NfsStatus)
      → shown m (resolve m d.ctx handle) ≡ attributes
      → (object_of (resolve m d.ctx handle) >>= told m d.ctx) ≡ result
      → NfsStep m d.ctx call (reply_of attributes result) [] m
  told-step m attributes result shows tells = by.is_step m d.ctx _ (record {
    reply_is = ap (λ x. reply_of x result) (sym shows)
        ∙ ap (reply_of (shown m (resolve m d.ctx handle))) (sym tells);
    no_message = refl;
    state_is = refl;
  })

  pub told-promised : (x : Known) (result : Result A NfsStatus) → Knows d (λ k. Names d.ctx handle k x)
      → Knows d (λ k. told k.state d.ctx (target k.state x) ≡ result) → IsAnswer (Some x.attributes) result
  told-promised x result names tells =
      promised-unchanged d begins.none begins.quiet (calls.Nfs call) _ held given (λ s k w formed.
      told-step k.state (Some x.attributes) result (names s k w).shows
      (passed _ (names s k w).names (tells s k w)))

  pub refused-promised : (e : NfsStatus) → Knows d (λ k. NamesNothing d.ctx handle k e) → IsAnswer None (Err e)
  refused-promised e refused =
      promised-unchanged d begins.none begins.quiet (calls.Nfs call) _ held given (λ s k w formed.
      told-step k.state None (Err e) ((refused s k w).shows_after k.state) (failed _ (refused s k w).refused))

-- ---- the procedures
pub access-tells : (a : AccessArguments) → ToldBy (nfs.Access a) a.object
    (λ attributes result. replies.Access (record { attributes = attributes; result = result }))
    (λ m ctx o. Ok (granted m.exports ctx o.object a.rights))
unfolding NfsStep
access-tells a = record { is_step = λ m ctx reply is. is }

pub readlink-tells : (link : List ℕ) → ToldBy (nfs.Readlink link) link
    (λ attributes result. replies.Readlink (record { attributes = attributes; result = result }))
    (λ m ctx o. text_in o.object.content)
unfolding NfsStep
readlink-tells link = record { is_step = λ m ctx reply is. is }

pub read-tells : (a : ReadArguments) → ToldBy (nfs.Read a) a.file
    (λ attributes result. replies.Read (record { attributes = attributes; result = result }))
    (λ m ctx o. read_object ctx o.object a)
unfolding NfsStep
read-tells a = record { is_step = λ m ctx reply is. is }

pub fsinfo-tells : (object : List ℕ) → ToldBy (nfs.Fsinfo object) object
    (λ attributes result. replies.Fsinfo (record { attributes = attributes; result = result }))
    (λ m ctx o. Ok file_system)
unfolding NfsStep
fsinfo-tells object = record { is_step = λ m ctx reply is. is }

pub pathconf-tells : (object : List ℕ) → ToldBy (nfs.Pathconf object) object
    (λ attributes result. replies.Pathconf (record { attributes = attributes; result = result }))
    (λ m ctx o. Ok path_limits)
unfolding NfsStep
pathconf-tells object = record { is_step = λ m ctx reply is. is }
