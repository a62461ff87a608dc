-- What READDIR and READDIRPLUS answer is a step of the machine.
use Rattle.std.proofs.Common.{[], Option, Some, None, Result, Ok, Err}
use Rattle.nfs_wire.specs.declared.attributes.Attributes.{Attributes}
use Rattle.nfs_wire.specs.declared.calls.NfsCall.TheVariants as nfs
use Rattle.nfs_wire.specs.declared.calls.ReaddirArguments.{ReaddirArguments}
use Rattle.nfs_wire.specs.declared.calls.ReaddirplusArguments.{ReaddirplusArguments}
use Rattle.nfs_wire.specs.declared.replies.NfsReply.TheVariants as replies
use Rattle.nfs_wire.specs.declared.replies.Page.{Page}
use Rattle.nfs_wire.specs.declared.replies.PagePlus.{PagePlus}
use Rattle.nfs_wire.specs.declared.status.NfsStatus.{NfsStatus}
use Rattle.nfs_machine.specs.NfsSteps.{NfsStep}
use Rattle.nfs_machine.specs.PageSteps.{ReaddirStep, ReaddirplusStep}
use Rattle.nfs_machine.specs.State.{State}
use Rattle.nfs_machine.specs.declared.calls.Call.TheVariants as calls
use Rattle.nfs_machine.specs.declared.calls.Reply.TheVariants as answers
use Rattle.nfs_machine.specs.declared.context.Ctx.{Ctx}
use Rattle.nfs_objects.proofs.PromiseLemmas.{promised-unchanged}
use Rattle.nfs_objects.specs.Begins.{Begins}
use Rattle.nfs_objects.specs.Knows.{Knows}
use Rattle.nfs_objects.specs.Promise.{Given, Held, IsPromised}
use Rattle.nfs_objects.specs.Values.{DraftValue, done_value}
use Rattle.nfs_inodes.specs.Known.{Means}
use Rattle.nfs_inodes.specs.declared.found.Known.{Known}
use Rattle.nfs_names.proofs.FittingPageLemmas.{nothing-step, page-step}
use Rattle.nfs_names.specs.Pages.{Lists, full_asked, full_page, names_asked, names_page}

-- ---- READDIR
readdir-step : (m : State) (ctx : Ctx) (a : ReaddirArguments) (attributes : Option Attributes)
    (page : Result Page NfsStatus) →
    ReaddirStep m ctx a (replies.Readdir (record { attributes = attributes; result = page })) [] m →
    NfsStep m ctx (nfs.Readdir a) (replies.Readdir (record { attributes = attributes; result = page })) [] m
unfolding NfsStep
readdir-step m ctx a attributes page step = step

module _ (d : DraftValue) (a : ReaddirArguments) (begins : Begins (calls.Nfs (nfs.Readdir a)) d)
    (held : Held d.view d.writes) (given : Given d.view d.writes) where
  abbrev Answers : Option Attributes → Result Page NfsStatus → Type 0
  Answers attributes page = IsPromised (done_value (calls.Nfs (nfs.Readdir a)) d.ctx d.view (record {
    writes = d.writes;
    messages = d.messages;
    reply = answers.Nfs (replies.Readdir (record { attributes = attributes; result = page }));
  }))

  pub names-promised : (x : Known) (page : Result Page NfsStatus) → Knows d (Means d.ctx a.directory (Ok x)) →
      Lists d x (names_asked a) (λ _. names_page d.ctx) page → Answers (Some x.attributes) page
  names-promised x page named lists =
      promised-unchanged d begins.none begins.quiet (calls.Nfs (nfs.Readdir a)) _ held given (λ s k w formed.
      readdir-step k.state d.ctx a (Some x.attributes) page
      (page-step d x (names_asked a) (λ s k w. (named s k w).known) (λ _. names_page d.ctx) a.directory named page
      lists
      (λ attributes result. replies.Readdir (record { attributes = attributes; result = result })) s k w formed))

  pub names-refused : (e : NfsStatus) → Knows d (Means d.ctx a.directory (Err e)) → Answers None (Err e)
  names-refused e refused =
      promised-unchanged d begins.none begins.quiet (calls.Nfs (nfs.Readdir a)) _ held given (λ s k w formed.
      readdir-step k.state d.ctx a None (Err e)
      (nothing-step d (names_asked a) (λ _. names_page d.ctx) a.directory e refused
      (λ attributes result. replies.Readdir (record { attributes = attributes; result = result })) s k w))

-- ---- READDIRPLUS
readdirplus-step : (m : State) (ctx : Ctx) (a : ReaddirplusArguments) (attributes : Option Attributes)
    (page : Result PagePlus NfsStatus) →
    ReaddirplusStep m ctx a (replies.Readdirplus (record { attributes = attributes; result = page })) [] m →
    NfsStep m ctx (nfs.Readdirplus a) (replies.Readdirplus (record { attributes = attributes; result = page })) [] m
unfolding NfsStep
readdirplus-step m ctx a attributes page step = step

module _ (d : DraftValue) (a : ReaddirplusArguments) (begins : Begins (calls.Nfs (nfs.Readdirplus a)) d)
    (held : Held d.view d.writes) (given : Given d.view d.writes) where
  abbrev AnswersFull : Option Attributes → Result PagePlus NfsStatus → Type 0
  AnswersFull attributes page = IsPromised (done_value (calls.Nfs (nfs.Readdirplus a)) d.ctx d.view (record {
    writes = d.writes;
    messages = d.messages;
    reply = answers.Nfs (replies.Readdirplus (record { attributes = attributes; result = page }));
  }))

  pub full-promised : (x : Known) (page : Result PagePlus NfsStatus) → Knows d (Means d.ctx a.directory (Ok x)) →
      Lists d x (full_asked a) (λ m. full_page m d.ctx) page → AnswersFull (Some x.attributes) page
  full-promised x page named lists =
      promised-unchanged d begins.none begins.quiet (calls.Nfs (nfs.Readdirplus a)) _ held given (λ s k w formed.
      readdirplus-step k.state d.ctx a (Some x.attributes) page
      (page-step d x (full_asked a) (λ s k w. (named s k w).known) (λ m. full_page m d.ctx) a.directory named page
      lists
      (λ attributes result. replies.Readdirplus (record { attributes = attributes; result = result })) s k w formed))

  pub full-refused : (e : NfsStatus) → Knows d (Means d.ctx a.directory (Err e)) → AnswersFull None (Err e)
  full-refused e refused =
      promised-unchanged d begins.none begins.quiet (calls.Nfs (nfs.Readdirplus a)) _ held given (λ s k w formed.
      readdirplus-step k.state d.ctx a None (Err e)
      (nothing-step d (full_asked a) (λ m. full_page m d.ctx) a.directory e refused
      (λ attributes result. replies.Readdirplus (record { attributes = attributes; result = result })) s k w))
