use Rattle.std.proofs.Common.{Err, Ok, refl}
use Rattle.std.proofs.lemmas.Result.{err_from_is_err_and}
use Rattle.nfs_wire.specs.declared.calls.NfsCall.TheVariants as nfs
use Rattle.nfs_machine.specs.declared.calls.Call.TheVariants as calls
use Rattle.nfs_inodes.proofs.NamedHaltLemmas.{means-as, naming-first}
use Rattle.nfs_names.proofs.LinkLemmas.{file-refused}
use Rattle.nfs_names.proofs.link.attempt.Goals as goal

pub returns-in_err-file-clause-ends : goal.returns-in_err-file-clause-ends
returns-in_err-file-clause-ends c =
    let a = c.args.arguments.now in
    let p = err_from_is_err_and c.from_residual.result c.from_residual.ensures.1 in
    rw (p.1, p.2)
    (naming-first c.args.draft (calls.Nfs (nfs.Link a)) _ c.requires a.file a.place.directory _
    c.as_slice.ensures refl c.in_err-file.ensures.stops)

pub attempt_of-requires-clause-file : goal.attempt_of-requires-clause-file
attempt_of-requires-clause-file c =
    means-as c.args.draft c.args.arguments.now.file _ _ (Ok c.in-Ok.file) c.as_slice.ensures c.in-Ok.is
    c.in_ok-file.ensures.means

pub returns-in-Err-clause-ends : goal.returns-in-Err-clause-ends
returns-in-Err-clause-ends c =
    rw (c.answer.ensures.value, c.reply.ensures, c.nothing_shown.ensures)
    (file-refused c.args.draft c.args.arguments.now c.requires c.answer.ensures.held c.answer.ensures.given
    c.in-Err.status
    (means-as c.args.draft c.args.arguments.now.file _ _ (Err c.in-Err.status) c.as_slice.ensures c.in-Err.is
    c.in_ok-file.ensures.means))
