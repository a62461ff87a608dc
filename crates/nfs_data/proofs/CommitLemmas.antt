-- COMMIT's answer is a step.
use Rattle.std.proofs.Common.{◌≡◌, [], Some, None, Result, Ok, Err, refl, sym, ap, ◌∙◌}
use Rattle.nfs_wire.specs.declared.attributes.Wcc.{Wcc}
use Rattle.nfs_wire.specs.declared.calls.CommitArguments.{CommitArguments}
use Rattle.nfs_wire.specs.declared.calls.NfsCall.TheVariants as nfs
use Rattle.nfs_wire.specs.declared.calls.Verifier.{Verifier}
use Rattle.nfs_wire.specs.declared.replies.NfsReply.TheVariants as replies
use Rattle.nfs_wire.specs.declared.status.NfsStatus.{NfsStatus}
use Rattle.nfs_machine.specs.Attributes.{type_of}
use Rattle.nfs_machine.specs.Checks.{◌>>=◌, bytes_in}
use Rattle.nfs_machine.specs.DataSteps.{commit_result, verifier_of}
use Rattle.nfs_machine.specs.NfsSteps.{NfsStep}
use Rattle.nfs_machine.specs.Resolve.{resolve}
use Rattle.nfs_machine.specs.Shown.{wcc}
use Rattle.nfs_machine.specs.State.{Content, State}
use Rattle.nfs_machine.specs.declared.calls.Call.TheVariants as calls
use Rattle.nfs_machine.specs.declared.calls.Reply.TheVariants as answers
use Rattle.nfs_machine.specs.declared.context.Ctx.{Ctx}
use Rattle.nfs_objects.proofs.KnowsLemmas.{failed, passed}
use Rattle.nfs_objects.proofs.PromiseLemmas.{promised-unchanged}
use Rattle.nfs_objects.specs.Begins.{Begins}
use Rattle.nfs_objects.specs.Knows.{Knows}
use Rattle.nfs_objects.specs.Promise.{Given, Held, IsPromised}
use Rattle.nfs_objects.specs.Values.{DraftValue, done_value}
use Rattle.nfs_inodes.proofs.StandsLemmas.{kind-is, shown-some}
use Rattle.nfs_inodes.specs.Known.{Names, NamesNothing, content_at, weak_of}
use Rattle.nfs_inodes.specs.declared.found.Known.{Known}

commit-step : (m : State) (ctx : Ctx) (a : CommitArguments) (shown : Wcc) (result : Result Verifier NfsStatus)
    → wcc m (resolve m ctx a.file) ≡ shown → commit_result m ctx a ≡ result
    → NfsStep m ctx (nfs.Commit a) (replies.Commit (record { wcc = shown; result = result })) [] m
unfolding NfsStep
commit-step m ctx a shown result shows tells = record {
  reply_is = ap (λ x. replies.Commit (record { wcc = x; result = result })) (sym shows)
      ∙ ap (λ r. replies.Commit (record { wcc = wcc m (resolve m ctx a.file); result = r })) (sym tells);
  no_message = refl;
  state_is = refl;
}

-- what the check came to
abbrev pub Commits : Known → Result Verifier NfsStatus → Ctx → Type 0
Commits x result ctx = (content : Content) → type_of content ≡ x.attributes.kind
    → (bytes_in content >>= λ bytes. Ok (verifier_of ctx)) ≡ result

module _ (d : DraftValue) (a : CommitArguments) (begins : Begins (calls.Nfs (nfs.Commit a)) d)
    (held : Held d.view d.writes) (given : Given d.view d.writes) where
  abbrev pub IsAnswer : Wcc → Result Verifier NfsStatus → Type 0
  IsAnswer shown result = IsPromised (done_value (calls.Nfs (nfs.Commit a)) d.ctx d.view (record {
    writes = d.writes;
    messages = d.messages;
    reply = answers.Nfs (replies.Commit (record { wcc = shown; result = result }));
  }))

  pub commit-promised : (x : Known) (result : Result Verifier NfsStatus) → Knows d (λ k. Names d.ctx a.file k x)
      → Commits x result d.ctx → IsAnswer (record { before = Some (weak_of x); after = Some x.attributes }) result
  commit-promised x result names commits =
      promised-unchanged d begins.none begins.quiet (calls.Nfs (nfs.Commit a)) _ held given (λ s k w formed.
      commit-step k.state d.ctx a _ result
      ((names s k w).wcc_after k.state
      ∙ ap (λ after. record { before = Some (weak_of x); after = after })
      (shown-some k.state x.number x (refl, (names s k w).known)))
      (passed _ (names s k w).names (commits (content_at k.state x.number) (kind-is k.state x (names s k w).known))))

  pub refused-promised : (e : NfsStatus) → Knows d (λ k. NamesNothing d.ctx a.file k e)
      → IsAnswer (record { before = None; after = None }) (Err e)
  refused-promised e refused =
      promised-unchanged d begins.none begins.quiet (calls.Nfs (nfs.Commit a)) _ held given (λ s k w formed.
      commit-step k.state d.ctx a _ (Err e) ((refused s k w).wcc_after k.state) (failed _ (refused s k w).refused))
