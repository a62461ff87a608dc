use Rattle.std.proofs.Common.{Ok, refl}
use Rattle.std.proofs.lemmas.Result.{err_from_is_err_and}
use Rattle.nfs_wire.specs.declared.calls.NfsCall.TheVariants as nfs
use Rattle.nfs_machine.specs.declared.calls.Call.TheVariants as calls
use Rattle.nfs_inodes.proofs.NamedHaltLemmas.{halting, means-as, naming, number-as}
use Rattle.nfs_inodes.proofs.ShownKindLemmas.{shown-so}
use Rattle.nfs_data.proofs.write.ask.Goals as goal

pub returns-in_err-known : goal.returns-in_err-known
returns-in_err-known c =
    let p = err_from_is_err_and c.from_residual.result c.from_residual.ensures.1 in
    rw (p.1, p.2)
    (naming c.args.draft.now (calls.Nfs (nfs.Write c.args.arguments.now)) _ c.requires c.args.arguments.now.file _
    c.as_slice.ensures refl c.in_err-known.ensures.stops)

pub store-requires-clause-names : goal.store-requires-clause-names
store-requires-clause-names c = means-as c.args.draft.now c.args.arguments.now.file _ _ (Ok c.in-Ok.known)
    c.as_slice.ensures c.in-Ok.is c.in_ok-known.ensures.means

pub store-requires-clause-number : goal.store-requires-clause-number
store-requires-clause-number c =
    number-as c.args.arguments.now.file _ _ c.in-Ok.known c.as_slice.ensures c.in-Ok.is c.in_ok-known.ensures.number

pub store-requires-clause-shown : goal.store-requires-clause-shown
store-requires-clause-shown c =
    shown-so c.args.draft.now _ c.in-Ok.known c.in-Ok.is c.in_ok-known.ensures.shown

pub returns-in_err-_written : goal.returns-in_err-_written
returns-in_err-_written c =
    let p = err_from_is_err_and c.from_residual-in_err-_written.result c.from_residual-in_err-_written.ensures.1 in
    rw (p.1, p.2)
    (halting c.args.draft.now (calls.Nfs (nfs.Write c.args.arguments.now)) _ c.requires
    c.in_err-_written.ensures)
