use Rattle.std.proofs.Common.{Ok, Err, refl}
use Rattle.std.proofs.lemmas.Result.{err_from_is_err_and}
use Rattle.nfs_wire.specs.declared.calls.NfsCall.TheVariants as nfs
use Rattle.nfs_machine.specs.declared.calls.Call.TheVariants as calls
use Rattle.nfs_inodes.proofs.UsageChangeLemmas.{brings-as, usage-brings}
use Rattle.nfs_inodes.proofs.NamedHaltLemmas.{exported-as, means-as, naming}
use Rattle.nfs_data.proofs.FsstatLemmas.{no-space-promised, space-promised}
use Rattle.nfs_data.proofs.fsstat.attempt.Goals as goal

pub returns-in_err-known-clause-ends : goal.returns-in_err-known-clause-ends
returns-in_err-known-clause-ends c =
    let p = err_from_is_err_and c.from_residual.result c.from_residual.ensures.1 in
    rw (p.1, p.2)
    (naming c.args.draft (calls.Nfs (nfs.Fsstat c.args.object.now)) _ c.requires c.args.object.now _
    c.as_slice.ensures refl c.in_err-known.ensures.stops)

pub returns-in_err-usage-in-Ok-clause-ends : goal.returns-in_err-usage-in-Ok-clause-ends
returns-in_err-usage-in-Ok-clause-ends c =
    let p = err_from_is_err_and c.from_residual-in_err-usage-in-Ok.result
    c.from_residual-in_err-usage-in-Ok.ensures.1 in
    rw (p.1, p.2)
    (naming c.args.draft (calls.Nfs (nfs.Fsstat c.args.object.now)) _ c.requires c.args.object.now
    c.args.object.now refl refl
    (usage-brings c.args.draft c.args.object.now c.in-Ok.known.export _
    (brings-as c.args.object.now _ _ c.in-Ok.known c.as_slice.ensures c.in-Ok.is c.in_ok-known.ensures.usage)
    c.in_err-usage-in-Ok.ensures))

pub returns-in_ok-usage-in-Ok-clause-ends : goal.returns-in_ok-usage-in-Ok-clause-ends
returns-in_ok-usage-in-Ok-clause-ends c =
    rw c.answer.ensures.value
    (space-promised c.args.draft c.args.object.now c.requires c.answer.ensures.held c.answer.ensures.given
    c.in-Ok.known c.in_ok-usage-in-Ok.usage c.space_left.result
    (means-as c.args.draft c.args.object.now _ _ (Ok c.in-Ok.known) c.as_slice.ensures c.in-Ok.is
    c.in_ok-known.ensures.means) c.in_ok-usage-in-Ok.ensures
    (exported-as c.args.draft _ c.in-Ok.known c.in-Ok.is c.in_ok-known.ensures.exported)
    (rw c.ctx.ensures at c.space_left.ensures))

pub returns-in-Err-clause-ends : goal.returns-in-Err-clause-ends
returns-in-Err-clause-ends c =
    rw c.answer-in-Err.ensures.value
    (no-space-promised c.args.draft c.args.object.now c.requires c.answer-in-Err.ensures.held
    c.answer-in-Err.ensures.given c.in-Err.status
    (means-as c.args.draft c.args.object.now _ _ (Err c.in-Err.status) c.as_slice.ensures c.in-Err.is
    c.in_ok-known.ensures.means))
