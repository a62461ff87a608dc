use Rattle.std.proofs.Common.{Ok, refl}
use Rattle.std.proofs.lemmas.Result.{err_from_is_err_and}
use Rattle.nfs_wire.specs.declared.calls.NfsCall.TheVariants as nfs
use Rattle.nfs_machine.specs.declared.calls.Call.TheVariants as calls
use Rattle.nfs_inodes.proofs.NamedHaltLemmas.{halting, means-as, naming, number-as}
use Rattle.nfs_data.proofs.write.ask_holes.Goals as goal

pub returns-in_err-known : goal.returns-in_err-known
returns-in_err-known c =
    let p = err_from_is_err_and c.from_residual.result c.from_residual.ensures.1 in
    rw (p.1, p.2)
    (naming c.args.draft.now (calls.Nfs (nfs.Write c.args.arguments.now)) _ c.requires c.args.arguments.now.file _
    c.as_slice.ensures refl c.in_err-known.ensures.stops)

pub ask_holes_in-requires-clause-names : goal.ask_holes_in-requires-clause-names
ask_holes_in-requires-clause-names c = means-as c.args.draft.now c.args.arguments.now.file _ _ (Ok c.in-Ok.known)
    c.as_slice.ensures c.in-Ok.is c.in_ok-known.ensures.means

pub ask_holes_in-requires-clause-number : goal.ask_holes_in-requires-clause-number
ask_holes_in-requires-clause-number c =
    number-as c.args.arguments.now.file _ _ c.in-Ok.known c.as_slice.ensures c.in-Ok.is c.in_ok-known.ensures.number

pub returns-in_err-ask_holes_in : goal.returns-in_err-ask_holes_in
returns-in_err-ask_holes_in c =
    let p = err_from_is_err_and c.from_residual-in_err-ask_holes_in.result
    c.from_residual-in_err-ask_holes_in.ensures.1 in
    rw (p.1, p.2)
    (halting c.args.draft.now (calls.Nfs (nfs.Write c.args.arguments.now)) _ c.requires
    c.in_err-ask_holes_in.ensures)
