use Rattle.std.proofs.Common.{refl}
use Rattle.std.proofs.lemmas.Result.{err_from_is_err_and}
use Rattle.nfs_wire.specs.declared.calls.NfsCall.TheVariants as nfs
use Rattle.nfs_machine.specs.declared.calls.Call.TheVariants as calls
use Rattle.nfs_inodes.proofs.NamedHaltLemmas.{naming}
use Rattle.nfs_inodes.proofs.UsageChangeLemmas.{brings-as, usage-brings}
use Rattle.nfs_data.proofs.fsstat.ask.Goals as goal

pub returns-in_err-known : goal.returns-in_err-known
returns-in_err-known c =
    let p = err_from_is_err_and c.from_residual.result c.from_residual.ensures.1 in
    rw (p.1, p.2)
    (naming c.args.draft.now (calls.Nfs (nfs.Fsstat c.args.object.now)) _ c.requires c.args.object.now _
    c.as_slice.ensures refl c.in_err-known.ensures.stops)

pub returns-in_err-_usage : goal.returns-in_err-_usage
returns-in_err-_usage c =
    let p = err_from_is_err_and c.from_residual-in_err-_usage.result c.from_residual-in_err-_usage.ensures.1 in
    rw (p.1, p.2)
    (naming c.args.draft.now (calls.Nfs (nfs.Fsstat c.args.object.now)) _ c.requires c.args.object.now
    c.args.object.now refl refl
    (usage-brings c.args.draft.now c.args.object.now c.in-Ok.known.export _
    (brings-as c.args.object.now _ _ c.in-Ok.known c.as_slice.ensures c.in-Ok.is c.in_ok-known.ensures.usage)
    c.in_err-_usage.ensures))
