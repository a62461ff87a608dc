-- A call that is refused changes nothing.
use Rattle.std.proofs.Common.{◌≡◌, true, Result, Ok, Err, is_some, refl, sym, ◌∙◌, ap}
use Rattle.nfs_wire.specs.declared.calls.NfsCall.TheVariants as calls
use Rattle.nfs_wire.specs.declared.status.NfsStatus.{NfsStatus}
use Rattle.nfs_machine.specs.DataSteps.{write_end}
use Rattle.nfs_machine.specs.AttributeSteps.{setattr_end}
use Rattle.nfs_machine.specs.Answers.{answer_of, state_after}
use Rattle.nfs_machine.specs.Laws.{RefusalsChangeNothing, is_refusal}
use Rattle.nfs_machine.specs.LinkSteps.{link_end}
use Rattle.nfs_machine.specs.NfsSteps.{NfsStep}
use Rattle.nfs_machine.specs.RenameSteps.{rename_end}
use Rattle.nfs_machine.specs.State.{State}
use Rattle.nfs_machine.specs.StatusLaws.{failure_of}
use Rattle.nfs_machine.proofs.ChoiceLemmas.{makes-as}
use Rattle.nfs_machine.specs.RemoveSteps.{rmdir_end}
use Rattle.nfs_machine.specs.RemoveSteps.{remove_end}

stays : {A : Type 0} (old : State) (end : Result (A × State) NfsStatus) → is_some (failure_of (answer_of end)) ≡ true
    → state_after old end ≡ old
stays old (Ok end) e = cc
stays old (Err e) refused = refl

pub refusals_unchanged : RefusalsChangeNothing
unfolding NfsStep
refusals_unchanged old ctx calls.Null reply messages new step e = (step.state_is, step.no_message)
refusals_unchanged old ctx (calls.Getattr object) reply messages new step e = (step.state_is, step.no_message)
refusals_unchanged old ctx (calls.Lookup place) reply messages new step e = (step.2.state_is, step.2.no_message)
refusals_unchanged old ctx (calls.Read a) reply messages new step e = (step.state_is, step.no_message)
refusals_unchanged old ctx (calls.Write a) reply messages new step e =
    (step.state_is ∙ stays old (write_end old ctx a) (sym (ap is_refusal step.reply_is) ∙ e), step.no_message)
refusals_unchanged old ctx (calls.Create a) reply messages new step e =
    let s = makes-as step in
    (s.answers.state_is ∙ stays old s.end (sym (ap is_refusal s.answers.reply_is) ∙ e), s.answers.no_message)
refusals_unchanged old ctx (calls.Mkdir a) reply messages new step e =
    let s = makes-as step in
    (s.answers.state_is ∙ stays old s.end (sym (ap is_refusal s.answers.reply_is) ∙ e), s.answers.no_message)
refusals_unchanged old ctx (calls.Symlink a) reply messages new step e =
    let s = makes-as step in
    (s.answers.state_is ∙ stays old s.end (sym (ap is_refusal s.answers.reply_is) ∙ e), s.answers.no_message)
refusals_unchanged old ctx (calls.Mknod a) reply messages new step e =
    let s = makes-as step in
    (s.answers.state_is ∙ stays old s.end (sym (ap is_refusal s.answers.reply_is) ∙ e), s.answers.no_message)
refusals_unchanged old ctx (calls.Remove place) reply messages new step e =
    (step.state_is ∙ stays old (remove_end old ctx place) (sym (ap is_refusal step.reply_is) ∙ e), step.no_message)
refusals_unchanged old ctx (calls.Rmdir place) reply messages new step e =
    (step.state_is ∙ stays old (rmdir_end old ctx place) (sym (ap is_refusal step.reply_is) ∙ e), step.no_message)
refusals_unchanged old ctx (calls.Rename a) reply messages new step e = (
  step.answers.state_is ∙ stays old (rename_end old ctx a step.is_within)
      (sym (ap is_refusal step.answers.reply_is) ∙ e),
  step.answers.no_message,
)
refusals_unchanged old ctx (calls.Link a) reply messages new step e =
    (step.state_is ∙ stays old (link_end old ctx a) (sym (ap is_refusal step.reply_is) ∙ e), step.no_message)
refusals_unchanged old ctx (calls.Setattr a) reply messages new step e =
    (step.state_is ∙ stays old (setattr_end old ctx a) (sym (ap is_refusal step.reply_is) ∙ e), step.no_message)
refusals_unchanged old ctx (calls.Access a) reply messages new step e = (step.state_is, step.no_message)
refusals_unchanged old ctx (calls.Readlink object) reply messages new step e = (step.state_is, step.no_message)
refusals_unchanged old ctx (calls.Readdir a) reply messages new step
    e = (step.answers.state_is, step.answers.no_message)
refusals_unchanged old ctx (calls.Readdirplus a) reply messages new step
    e = (step.answers.state_is, step.answers.no_message)
refusals_unchanged old ctx (calls.Fsstat object) reply messages new step e = (step.state_is, step.no_message)
refusals_unchanged old ctx (calls.Fsinfo object) reply messages new step e = (step.state_is, step.no_message)
refusals_unchanged old ctx (calls.Pathconf object) reply messages new step e = (step.state_is, step.no_message)
refusals_unchanged old ctx (calls.Commit a) reply messages new step e = (step.state_is, step.no_message)
