use Rattle.std.proofs.Common.{Ok, Err, refl}
use Rattle.std.proofs.lemmas.Result.{err_from_is_err_and}
use Rattle.nfs_wire.specs.declared.calls.NfsCall.TheVariants as nfs
use Rattle.nfs_machine.specs.declared.calls.Call.TheVariants as calls
use Rattle.nfs_inodes.proofs.NamedHaltLemmas.{asking, lives-as, means-as, naming, number-as}
use Rattle.nfs_inodes.specs.Blocks.{read_from}
use Rattle.nfs_data.proofs.DataRangeLemmas.{read-covers}
use Rattle.nfs_data.proofs.AttributeStepLemmas.{read-tells, refused-promised, told-promised}
use Rattle.nfs_data.proofs.read.attempt.Goals as goal
use Rattle.nfs_data.proofs.read.attempt.Goals.{in-Ok+in_ok-read_of-in-Ok, in-Err}

pub returns-in_err-known-clause-ends : goal.returns-in_err-known-clause-ends
returns-in_err-known-clause-ends c =
    let p = err_from_is_err_and c.from_residual.result c.from_residual.ensures.1 in
    rw (p.1, p.2)
    (naming c.args.draft (calls.Nfs (nfs.Read c.args.arguments.now)) _ c.requires c.args.arguments.now.file _
    c.as_slice.ensures refl c.in_err-known.ensures.stops)

pub read_of-requires : goal.read_of-requires
read_of-requires c = λ s k w. (means-as c.args.draft _ _ _ (Ok c.in-Ok.known) c.as_slice.ensures c.in-Ok.is
    c.in_ok-known.ensures.means s k w).known

pub returns-in_err-read_of-in-Ok-clause-ends : goal.returns-in_err-read_of-in-Ok-clause-ends
returns-in_err-read_of-in-Ok-clause-ends c =
    let p = err_from_is_err_and c.from_residual-in_err-read_of-in-Ok.result
    c.from_residual-in_err-read_of-in-Ok.ensures.1 in
    let a = c.args.arguments.now in
    rw (p.1, p.2)
    (asking c.args.draft (calls.Nfs (nfs.Read a)) _ c.requires
    (read_from c.args.draft.view c.in-Ok.known.number a.offset)
    (read-covers c.args.draft.view a c.in-Ok.known.number
    (number-as a.file _ _ c.in-Ok.known c.as_slice.ensures c.in-Ok.is c.in_ok-known.ensures.number)
    (lives-as c.args.draft.view _ c.in-Ok.known c.in-Ok.is c.in_ok-known.ensures.lives))
    c.in_err-read_of-in-Ok.ensures)

pub returns-clause-ends : goal.returns-clause-ends
returns-clause-ends c = elim c.match-branch-2.branch [
  | in-Ok+in_ok-read_of-in-Ok w ↦ rw (c.answer.ensures.value, w.attributes-is)
      (told-promised (read-tells c.args.arguments.now) c.args.draft c.requires c.answer.ensures.held
      c.answer.ensures.given
      w.in-Ok.known w.in_ok-read_of-in-Ok.field-0
      (means-as c.args.draft c.args.arguments.now.file _ _ (Ok w.in-Ok.known) c.as_slice.ensures w.in-Ok.is
      c.in_ok-known.ensures.means) w.in_ok-read_of-in-Ok.ensures)
  | in-Err w ↦ rw (c.answer.ensures.value, w.attributes-is)
      (refused-promised (read-tells c.args.arguments.now) c.args.draft c.requires c.answer.ensures.held
      c.answer.ensures.given
      w.in-Err.status
      (means-as c.args.draft c.args.arguments.now.file _ _ (Err w.in-Err.status) c.as_slice.ensures w.in-Err.is
      c.in_ok-known.ensures.means))
]
