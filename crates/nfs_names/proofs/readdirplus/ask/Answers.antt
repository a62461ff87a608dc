use Rattle.std.proofs.Common.{[], Ok, refl}
use Rattle.std.proofs.lemmas.Result.{err_from_is_err_and}
use Rattle.nfs_wire.specs.declared.calls.NfsCall.TheVariants as nfs
use Rattle.nfs_machine.specs.declared.calls.Call.TheVariants as calls
use Rattle.nfs_inodes.proofs.NamedHaltLemmas.{asking, means-as, naming}
use Rattle.nfs_names.proofs.NamePlanLemmas.{asks-ended}
use Rattle.nfs_names.proofs.readdirplus.ask.Goals as goal

pub returns-in_err-directory : goal.returns-in_err-directory
returns-in_err-directory c =
    let p = err_from_is_err_and c.from_residual.result c.from_residual.ensures.1 in
    rw (p.1, p.2)
    (naming c.args.draft.now (calls.Nfs (nfs.Readdirplus c.args.arguments.now)) _ c.requires
    c.args.arguments.now.directory _ c.as_slice.ensures refl c.in_err-directory.ensures.stops)

pub page_in-requires-clause-known : goal.page_in-requires-clause-known
page_in-requires-clause-known c = λ s k w.
    (means-as c.args.draft.now c.args.arguments.now.directory _ _ (Ok c.in-Ok.directory) c.as_slice.ensures c.in-Ok.is
    c.in_ok-directory.ensures.means s k w).known

pub returns-in_err-front : goal.returns-in_err-front
returns-in_err-front c =
    let p = err_from_is_err_and c.from_residual-in_err-front.result c.from_residual-in_err-front.ensures.1 in
    rw (p.1, p.2)
    (asking c.args.draft.now (calls.Nfs (nfs.Readdirplus c.args.arguments.now)) _ c.requires [] tt
    c.in_err-front.ensures.page)

pub returns : goal.returns
returns c =
    asks-ended (calls.Nfs (nfs.Readdirplus c.args.arguments.now)) c.args.draft.now [] _ c.requires tt
    c.read_objects.ensures.stops
