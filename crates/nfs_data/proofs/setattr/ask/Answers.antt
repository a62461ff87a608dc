use Rattle.std.proofs.Common.{[], Ok, refl}
use Rattle.std.proofs.lemmas.Result.{err_from_is_err_and}
use Rattle.nfs_wire.specs.declared.calls.NfsCall.TheVariants as nfs
use Rattle.nfs_machine.specs.declared.calls.Call.TheVariants as calls
use Rattle.nfs_inodes.proofs.NamedHaltLemmas.{asking, lives-as, naming}
use Rattle.nfs_inodes.proofs.ShownKindLemmas.{shown-so}
use Rattle.nfs_data.proofs.setattr.ask.Goals as goal

pub returns-in_err-known : goal.returns-in_err-known
returns-in_err-known c =
    let p = err_from_is_err_and c.from_residual.result c.from_residual.ensures.1 in
    rw (p.1, p.2)
    (naming c.args.draft.now (calls.Nfs (nfs.Setattr c.args.arguments.now)) _ c.requires c.args.arguments.now.object _
    c.as_slice.ensures refl c.in_err-known.ensures.stops)

pub ask_size-requires-clause-none : goal.ask_size-requires-clause-none
ask_size-requires-clause-none c = c.requires.none

pub ask_size-requires-clause-lives : goal.ask_size-requires-clause-lives
ask_size-requires-clause-lives c =
    lives-as c.args.draft.now.view _ c.in-Ok.known c.in-Ok.is c.in_ok-known.ensures.lives

pub ask_size-requires-clause-shown : goal.ask_size-requires-clause-shown
ask_size-requires-clause-shown c =
    shown-so c.args.draft.now _ c.in-Ok.known c.in-Ok.is c.in_ok-known.ensures.shown

pub returns-in_err-ask_size : goal.returns-in_err-ask_size
returns-in_err-ask_size c =
    let p = err_from_is_err_and c.from_residual-in_err-ask_size.result c.from_residual-in_err-ask_size.ensures.1 in
    rw (p.1, p.2)
    (asking c.args.draft.now (calls.Nfs (nfs.Setattr c.args.arguments.now)) _ c.requires [] tt
    c.in_err-ask_size.ensures)
