use Rattle.std.proofs.Common.{Some, Ok, Err, ap, refl, subst}
use Rattle.std.proofs.lemmas.Result.{err_from_is_err_and}
use Rattle.nfs_wire.specs.declared.calls.NfsCall.TheVariants as nfs
use Rattle.nfs_machine.specs.declared.calls.Call.TheVariants as calls
use Rattle.nfs_objects.specs.Promise.{Given, Held}
use Rattle.nfs_objects.specs.Values.{DraftValue}
use Rattle.nfs_inodes.proofs.ReaderHaltLemmas.{known-never_asked, stops-before}
use Rattle.nfs_inodes.proofs.NamedHaltLemmas.{halting, lives-as, means-as, naming, reading}
use Rattle.nfs_inodes.specs.Known.{weak_of}
use Rattle.nfs_inodes.proofs.ShownKindLemmas.{shown-so}
use Rattle.nfs_data.proofs.NamedObjectLemmas.{knows-object}
use Rattle.nfs_data.proofs.ChangeStepLemmas.{changed-promised, refused-promised, setattr-changes}
use Rattle.nfs_data.proofs.SetattrLemmas.{shown-as}
use Rattle.nfs_objects.specs.Calls.{addresses_of}
use Rattle.nfs_data.proofs.setattr.attempt.Goals as goal
use Rattle.nfs_data.proofs.setattr.attempt.Goals.{in-Ok+in_ok-done-in-Ok+in_ok-after-in-Ok, in-Err}

pub returns-in_err-known-clause-ends : goal.returns-in_err-known-clause-ends
returns-in_err-known-clause-ends c =
    let p = err_from_is_err_and c.from_residual.result c.from_residual.ensures.1 in
    rw (p.1, p.2)
    (naming c.args.draft (calls.Nfs (nfs.Setattr c.args.arguments.now)) _ c.requires c.args.arguments.now.object _
    c.as_slice.ensures refl c.in_err-known.ensures.stops)

pub set-requires-clause-names : goal.set-requires-clause-names
set-requires-clause-names c = means-as c.args.draft c.args.arguments.now.object _ _ (Ok c.in-Ok.known)
    c.as_slice.ensures c.in-Ok.is c.in_ok-known.ensures.means

pub returns-in_err-done-in-Ok-clause-ends : goal.returns-in_err-done-in-Ok-clause-ends
returns-in_err-done-in-Ok-clause-ends c =
    let p = err_from_is_err_and c.from_residual-in_err-done-in-Ok.result c.from_residual-in_err-done-in-Ok.ensures.1 in
    rw (p.1, p.2)
    (halting c.args.draft (calls.Nfs (nfs.Setattr c.args.arguments.now)) _ c.requires c.in_err-done-in-Ok.ensures.does)

pub returns-in_err-done-in-Ok-clause-only : goal.returns-in_err-done-in-Ok-clause-only
returns-in_err-done-in-Ok-clause-only c =
    let p = err_from_is_err_and c.from_residual-in_err-done-in-Ok.result c.from_residual-in_err-done-in-Ok.ensures.1 in
    λ none nothing. rw (p.1, p.2)
    (c.in_err-done-in-Ok.ensures.only none
    (knows-object c.args.draft _ c.in-Ok.known c.in-Ok.is c.in_ok-known.ensures.reads)).0

pub returns-in_err-after-in-Ok-clause-ends : goal.returns-in_err-after-in-Ok-clause-ends
returns-in_err-after-in-Ok-clause-ends c =
    let p = err_from_is_err_and c.from_residual-in_err-after-in-Ok.result
    c.from_residual-in_err-after-in-Ok.ensures.1 in
    let does = c.in_ok-done-in-Ok.ensures.does in
    rw (p.1, p.2)
    (reading c.args.draft (calls.Nfs (nfs.Setattr c.args.arguments.now)) _ c.requires c.in-Ok.known
    (lives-as c.args.draft.view _ c.in-Ok.known c.in-Ok.is c.in_ok-known.ensures.lives)
    (stops-before c.args.draft c.set.new.draft does.op
    (λ view. addresses_of view c.in-Ok.known.number) _ does.turns
    c.in_err-after-in-Ok.ensures.object))

pub returns-in_err-after-in-Ok-clause-only : goal.returns-in_err-after-in-Ok-clause-only
returns-in_err-after-in-Ok-clause-only c =
    let p = err_from_is_err_and c.from_residual-in_err-after-in-Ok.result
    c.from_residual-in_err-after-in-Ok.ensures.1 in
    λ none nothing. rw (p.1, p.2)
    (known-never_asked {A = Unit {0}} c.set.new.draft c.in-Ok.known.number (Err _)
    ((c.in_ok-done-in-Ok.ensures.only none
    (knows-object c.args.draft _ c.in-Ok.known c.in-Ok.is c.in_ok-known.ensures.reads)).1)
    c.in_err-after-in-Ok.ensures.reads)

pub returns-clause-ends : goal.returns-clause-ends
returns-clause-ends c = elim c.match-branch-2.branch [
  | in-Ok+in_ok-done-in-Ok+in_ok-after-in-Ok w ↦ rw
      (c.answer.ensures.value, w.reply-is, w.draft-is, w.wcc_of.ensures, w.attributes_of.ensures)
      (changed-promised (setattr-changes c.args.arguments.now) c.args.draft c.requires w.set.new.draft w.in-Ok.known
      _ w.in_ok-done-in-Ok.done
      (subst (λ (d : DraftValue). Held d.view d.writes) w.draft-is c.answer.ensures.held)
      (subst (λ (d : DraftValue). Given d.view d.writes) w.draft-is c.answer.ensures.given)
      (means-as c.args.draft c.args.arguments.now.object _ _ (Ok w.in-Ok.known) c.as_slice.ensures w.in-Ok.is
      c.in_ok-known.ensures.means) w.in_ok-done-in-Ok.ensures.does
      (λ s k possible. ap (λ after. record { before = Some (weak_of w.in-Ok.known); after = after })
      (shown-as k.state w.in-Ok.known.number w.in_ok-after-in-Ok.after
      (w.in_ok-after-in-Ok.ensures.object s k possible))))
  | in-Err w ↦ rw (c.answer.ensures.value, w.reply-is, w.draft-is, w.nothing_shown.ensures)
      (refused-promised (setattr-changes c.args.arguments.now) c.args.draft c.requires w.in-Err.status
      (subst (λ (d : DraftValue). Held d.view d.writes) w.draft-is c.answer.ensures.held)
      (subst (λ (d : DraftValue). Given d.view d.writes) w.draft-is c.answer.ensures.given)
      (means-as c.args.draft c.args.arguments.now.object _ _ (Err w.in-Err.status) c.as_slice.ensures w.in-Err.is
      c.in_ok-known.ensures.means))
]

pub set-requires-clause-shown : goal.set-requires-clause-shown
set-requires-clause-shown c =
    shown-so c.args.draft _ c.in-Ok.known c.in-Ok.is c.in_ok-known.ensures.shown
