use Rattle.std.proofs.Common.{refl, sym}
use Rattle.std.proofs.lemmas.Result.{err_from_is_err_and}
use Rattle.nfs_wire.specs.declared.calls.NfsCall.TheVariants as nfs
use Rattle.nfs_machine.specs.declared.calls.Call.TheVariants as calls
use Rattle.nfs_data.proofs.NullGetattrLemmas.{getattr-promised}
use Rattle.nfs_inodes.proofs.NamedHaltLemmas.{means-as, naming}
use Rattle.nfs_data.proofs.getattr.attempt.Goals as goal

pub returns-in_err-found-clause-ends : goal.returns-in_err-found-clause-ends
returns-in_err-found-clause-ends c =
    let p = err_from_is_err_and c.from_residual.result c.from_residual.ensures.1 in
    rw (p.1, p.2)
    (naming c.args.draft (calls.Nfs (nfs.Getattr c.args.object.now)) _ c.requires c.args.object.now _
    c.as_slice.ensures refl c.in_err-found.ensures.stops)

pub returns-clause-ends : goal.returns-clause-ends
returns-clause-ends c =
    rw c.answer.ensures.value
    (getattr-promised c.args.draft c.args.object.now c.in_ok-found.found c.attributes_in-attributes.result c.requires
    c.answer.ensures.held c.answer.ensures.given
    (means-as c.args.draft c.args.object.now _ _ _ c.as_slice.ensures refl c.in_ok-found.ensures.means)
    (sym c.attributes_in-attributes.ensures))
