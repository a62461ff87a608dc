use Rattle.std.proofs.Common.{Ok, ◌∷◌}
use Rattle.std.proofs.lemmas.Result.{err_from_is_err_and}
use Rattle.nfs_objects.proofs.KnowsLemmas.{covers-among}
use Rattle.nfs_objects.specs.Calls.{locks_under, named_by}
use Rattle.nfs_objects.specs.declared.address.Addr.TheVariants as addresses
use Rattle.nfs_inodes.proofs.NamedHaltLemmas.{means-as, naming, number-as}
use Rattle.nfs_inodes.proofs.ShownKindLemmas.{shown-so}
use Rattle.nfs_names.proofs.NamePlanLemmas.{asks-ended}
use Rattle.nfs_names.proofs.NamedLocksLemmas.{taking-names}
use Rattle.nfs_names.proofs.RemoveLemmas.{names-directory}
use Rattle.nfs_names.specs.Removes.{call_of}
use Rattle.nfs_names.proofs.remove.ask.Goals as goal

pub returns-in_err-directory : goal.returns-in_err-directory
returns-in_err-directory c =
    let p = err_from_is_err_and c.from_residual.result c.from_residual.ensures.1 in
    rw (p.1, p.2)
    (naming c.args.draft.now (call_of c.args.taking c.args.place.now) _ c.requires c.args.place.now.directory _
    c.as_slice.ensures (names-directory c.args.taking c.args.place.now) c.in_err-directory.ensures.stops)

pub ask_taken-requires-clause-names : goal.ask_taken-requires-clause-names
ask_taken-requires-clause-names c =
    means-as c.args.draft.now c.args.place.now.directory _ _ (Ok c.in-Ok.directory) c.as_slice.ensures c.in-Ok.is
    c.in_ok-directory.ensures.means

pub ask_taken-requires-clause-number : goal.ask_taken-requires-clause-number
ask_taken-requires-clause-number c =
    number-as c.args.place.now.directory _ _ c.in-Ok.directory c.as_slice.ensures c.in-Ok.is
    c.in_ok-directory.ensures.number

pub ask_taken-requires-clause-shown : goal.ask_taken-requires-clause-shown
ask_taken-requires-clause-shown c =
    shown-so c.args.draft.now _ c.in-Ok.directory c.in-Ok.is c.in_ok-directory.ensures.shown

pub returns : goal.returns
returns c =
    let d = c.args.draft.now in
    let few = addresses.Exports ∷ locks_under d.view c.args.place.now in
    let call = call_of c.args.taking c.args.place.now in
    asks-ended call d few _ c.requires
    (covers-among few (named_by call d.view) d.view (taking-names c.args.taking c.args.place.now d.view))
    c.ask_taken.ensures
