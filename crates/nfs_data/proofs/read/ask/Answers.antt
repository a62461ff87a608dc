use Rattle.std.proofs.Common.{Ok, refl}
use Rattle.std.proofs.lemmas.Result.{err_from_is_err_and}
use Rattle.nfs_wire.specs.declared.calls.NfsCall.TheVariants as nfs
use Rattle.nfs_machine.specs.declared.calls.Call.TheVariants as calls
use Rattle.nfs_inodes.proofs.NamedHaltLemmas.{asking, lives-as, means-as, naming, number-as}
use Rattle.nfs_inodes.specs.Blocks.{read_from}
use Rattle.nfs_data.proofs.DataRangeLemmas.{read-covers}
use Rattle.nfs_data.proofs.read.ask.Goals as goal

pub returns-in_err-known : goal.returns-in_err-known
returns-in_err-known c =
    let p = err_from_is_err_and c.from_residual.result c.from_residual.ensures.1 in
    rw (p.1, p.2)
    (naming c.args.draft.now (calls.Nfs (nfs.Read c.args.arguments.now)) _ c.requires c.args.arguments.now.file _
    c.as_slice.ensures refl c.in_err-known.ensures.stops)

pub read_of-requires : goal.read_of-requires
read_of-requires c = λ s k w. (means-as c.args.draft.now _ _ _ (Ok c.in-Ok.known) c.as_slice.ensures c.in-Ok.is
    c.in_ok-known.ensures.means s k w).known

pub returns-in_err-_found : goal.returns-in_err-_found
returns-in_err-_found c =
    let p = err_from_is_err_and c.from_residual-in_err-_found.result c.from_residual-in_err-_found.ensures.1 in
    let a = c.args.arguments.now in
    let d = c.args.draft.now in
    rw (p.1, p.2)
    (asking d (calls.Nfs (nfs.Read a)) _ c.requires (read_from d.view c.in-Ok.known.number a.offset)
    (read-covers d.view a c.in-Ok.known.number
    (number-as a.file _ _ c.in-Ok.known c.as_slice.ensures c.in-Ok.is c.in_ok-known.ensures.number)
    (lives-as d.view _ c.in-Ok.known c.in-Ok.is c.in_ok-known.ensures.lives))
    c.in_err-_found.ensures)
