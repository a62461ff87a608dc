use Rattle.std.proofs.Common.{Ok}
use Rattle.std.proofs.lemmas.Result.{err_from_is_err_and}
use Rattle.nfs_objects.specs.Calls.{added_at}
use Rattle.nfs_inodes.proofs.NamedHaltLemmas.{means-as, number-as}
use Rattle.nfs_inodes.proofs.ShownKindLemmas.{shown-so}
use Rattle.nfs_inodes.proofs.UsageChangeLemmas.{brings-as}
use Rattle.nfs_inodes.specs.Stops.{brought_by}
use Rattle.nfs_names.proofs.MakeObjectLemmas.{front-making}
use Rattle.nfs_names.proofs.make.ask.Goals as goal

pub returns-in_err-known : goal.returns-in_err-known
returns-in_err-known c =
    let p = err_from_is_err_and c.from_residual.result c.from_residual.ensures.1 in
    rw (p.1, p.2) (front-making c.args.draft.now (brought_by c.args.draft.now.view c.args.place.now.directory)
    (added_at c.args.draft.now.view c.args.place.now) _
    (rw c.as_slice.ensures at c.in_err-known.ensures.stops))

pub ask_in-requires-clause-names : goal.ask_in-requires-clause-names
ask_in-requires-clause-names c =
    means-as c.args.draft.now c.args.place.now.directory _ _ (Ok c.in-Ok.known) c.as_slice.ensures
    c.in-Ok.is c.in_ok-known.ensures.means

pub ask_in-requires-clause-shown : goal.ask_in-requires-clause-shown
ask_in-requires-clause-shown c =
    shown-so c.args.draft.now _ c.in-Ok.known c.in-Ok.is c.in_ok-known.ensures.shown

pub ask_in-requires-clause-usage : goal.ask_in-requires-clause-usage
ask_in-requires-clause-usage c =
    brings-as c.args.place.now.directory _ _ c.in-Ok.known c.as_slice.ensures c.in-Ok.is c.in_ok-known.ensures.usage

pub ask_in-requires-clause-number : goal.ask_in-requires-clause-number
ask_in-requires-clause-number c =
    number-as c.args.place.now.directory _ _ c.in-Ok.known c.as_slice.ensures c.in-Ok.is c.in_ok-known.ensures.number
