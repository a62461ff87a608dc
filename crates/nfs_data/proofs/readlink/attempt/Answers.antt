use Rattle.std.proofs.Common.{Ok, Err, refl}
use Rattle.std.proofs.lemmas.Result.{err_from_is_err_and}
use Rattle.nfs_wire.specs.declared.calls.NfsCall.TheVariants as nfs
use Rattle.nfs_machine.specs.declared.calls.Call.TheVariants as calls
use Rattle.nfs_inodes.proofs.NamedHaltLemmas.{lives-as, means-as, naming, reading}
use Rattle.nfs_data.proofs.AttributeStepLemmas.{readlink-tells, refused-promised, told-promised}
use Rattle.nfs_data.proofs.readlink.attempt.Goals as goal
use Rattle.nfs_data.proofs.readlink.attempt.Goals.{in-Ok+in_ok-text-in-Ok, in-Err}

pub returns-in_err-known-clause-ends : goal.returns-in_err-known-clause-ends
returns-in_err-known-clause-ends c =
    let p = err_from_is_err_and c.from_residual.result c.from_residual.ensures.1 in
    rw (p.1, p.2)
    (naming c.args.draft (calls.Nfs (nfs.Readlink c.args.object.now)) _ c.requires c.args.object.now _
    c.as_slice.ensures refl c.in_err-known.ensures.stops)

pub returns-in_err-text-in-Ok-clause-ends : goal.returns-in_err-text-in-Ok-clause-ends
returns-in_err-text-in-Ok-clause-ends c =
    let p = err_from_is_err_and c.from_residual-in_err-text-in-Ok.result c.from_residual-in_err-text-in-Ok.ensures.1 in
    rw (p.1, p.2)
    (reading c.args.draft (calls.Nfs (nfs.Readlink c.args.object.now)) _ c.requires c.in-Ok.known
    (lives-as c.args.draft.view _ c.in-Ok.known c.in-Ok.is c.in_ok-known.ensures.lives)
    c.in_err-text-in-Ok.ensures)

pub returns-clause-ends : goal.returns-clause-ends
returns-clause-ends c = elim c.match-branch-2.branch [
  | in-Ok+in_ok-text-in-Ok w ↦ rw (c.answer.ensures.value, w.reply-is)
      (told-promised (readlink-tells c.args.object.now) c.args.draft c.requires c.answer.ensures.held
      c.answer.ensures.given
      w.in-Ok.known w.in_ok-text-in-Ok.text
      (means-as c.args.draft c.args.object.now _ _ (Ok w.in-Ok.known) c.as_slice.ensures w.in-Ok.is
      c.in_ok-known.ensures.means) w.in_ok-text-in-Ok.ensures)
  | in-Err w ↦ rw (c.answer.ensures.value, w.reply-is)
      (refused-promised (readlink-tells c.args.object.now) c.args.draft c.requires c.answer.ensures.held
      c.answer.ensures.given
      w.in-Err.status (means-as c.args.draft c.args.object.now _ _ (Err w.in-Err.status) c.as_slice.ensures w.in-Err.is
      c.in_ok-known.ensures.means))
]
