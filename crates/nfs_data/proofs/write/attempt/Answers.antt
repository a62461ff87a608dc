use Rattle.std.proofs.Common.{Ok, Err, refl, subst}
use Rattle.std.proofs.lemmas.Result.{err_from_is_err_and}
use Rattle.nfs_wire.specs.declared.calls.NfsCall.TheVariants as nfs
use Rattle.nfs_machine.specs.declared.calls.Call.TheVariants as calls
use Rattle.nfs_objects.specs.Promise.{Given, Held}
use Rattle.nfs_objects.specs.Values.{DraftValue}
use Rattle.nfs_inodes.proofs.ReaderHaltLemmas.{stops-before}
use Rattle.nfs_inodes.proofs.NamedHaltLemmas.{lives-as, means-as, naming, number-as, reading}
use Rattle.nfs_inodes.proofs.ShownKindLemmas.{shown-so}
use Rattle.nfs_data.proofs.ChangeStepLemmas.{changed-promised, refused-promised, write-changes}
use Rattle.nfs_objects.specs.Calls.{addresses_of}
use Rattle.nfs_data.proofs.write.attempt.Goals as goal
use Rattle.nfs_data.proofs.write.attempt.Goals.{in-Ok+in_ok-result-in-Ok+in_ok-wcc-in-Ok, in-Err}

pub returns-in_err-known-clause-ends : goal.returns-in_err-known-clause-ends
returns-in_err-known-clause-ends c =
    let p = err_from_is_err_and c.from_residual.result c.from_residual.ensures.1 in
    rw (p.1, p.2)
    (naming c.args.draft (calls.Nfs (nfs.Write c.args.arguments.now)) _ c.requires c.args.arguments.now.file _
    c.as_slice.ensures refl c.in_err-known.ensures.stops)

pub store-requires-clause-names : goal.store-requires-clause-names
store-requires-clause-names c = means-as c.args.draft c.args.arguments.now.file _ _ (Ok c.in-Ok.known)
    c.as_slice.ensures c.in-Ok.is c.in_ok-known.ensures.means

pub store-requires-clause-number : goal.store-requires-clause-number
store-requires-clause-number c =
    number-as c.args.arguments.now.file _ _ c.in-Ok.known c.as_slice.ensures c.in-Ok.is c.in_ok-known.ensures.number

pub returns-in_err-wcc-in-Ok-clause-ends : goal.returns-in_err-wcc-in-Ok-clause-ends
returns-in_err-wcc-in-Ok-clause-ends c =
    let p = err_from_is_err_and c.from_residual-in_err-wcc-in-Ok.result c.from_residual-in_err-wcc-in-Ok.ensures.1 in
    let does = c.in_ok-result-in-Ok.ensures in
    rw (p.1, p.2)
    (reading c.args.draft (calls.Nfs (nfs.Write c.args.arguments.now)) _ c.requires c.in-Ok.known
    (lives-as c.args.draft.view _ c.in-Ok.known c.in-Ok.is c.in_ok-known.ensures.lives)
    (stops-before c.args.draft c.store.new.draft does.op
    (λ view. addresses_of view c.in-Ok.known.number) _ does.turns
    c.in_err-wcc-in-Ok.ensures))

pub returns-clause-ends : goal.returns-clause-ends
returns-clause-ends c = elim c.match-branch-2.branch [
  | in-Ok+in_ok-result-in-Ok+in_ok-wcc-in-Ok w ↦ rw (c.answer.ensures.value, w.result-is, w.draft-is)
      (changed-promised (write-changes c.args.arguments.now) c.args.draft c.requires w.store.new.draft w.in-Ok.known
      w.in_ok-wcc-in-Ok.field-0 w.in_ok-result-in-Ok.result
      (subst (λ (d : DraftValue). Held d.view d.writes) w.draft-is c.answer.ensures.held)
      (subst (λ (d : DraftValue). Given d.view d.writes) w.draft-is c.answer.ensures.given)
      (means-as c.args.draft c.args.arguments.now.file _ _ (Ok w.in-Ok.known) c.as_slice.ensures w.in-Ok.is
      c.in_ok-known.ensures.means) w.in_ok-result-in-Ok.ensures
      w.in_ok-wcc-in-Ok.ensures)
  | in-Err w ↦ rw (c.answer.ensures.value, w.result-is, w.draft-is, w.nothing_shown.ensures)
      (refused-promised (write-changes c.args.arguments.now) c.args.draft c.requires w.in-Err.status
      (subst (λ (d : DraftValue). Held d.view d.writes) w.draft-is c.answer.ensures.held)
      (subst (λ (d : DraftValue). Given d.view d.writes) w.draft-is c.answer.ensures.given)
      (means-as c.args.draft c.args.arguments.now.file _ _ (Err w.in-Err.status) c.as_slice.ensures w.in-Err.is
      c.in_ok-known.ensures.means))
]

pub store-requires-clause-shown : goal.store-requires-clause-shown
store-requires-clause-shown c =
    shown-so c.args.draft _ c.in-Ok.known c.in-Ok.is c.in_ok-known.ensures.shown
