use Rattle.std.proofs.Common.{◌∷◌, Ok, inl, refl}
use Rattle.std.proofs.lemmas.Result.{err_from_is_err_and}
use Rattle.nfs_wire.specs.declared.calls.NfsCall.TheVariants as nfs
use Rattle.nfs_machine.specs.declared.calls.Call.TheVariants as calls
use Rattle.nfs_objects.proofs.KnowsLemmas.{covers-among, names-added, names-exports}
use Rattle.nfs_objects.specs.Calls.{added_at, named_by}
use Rattle.nfs_objects.specs.declared.address.Addr.TheVariants as addresses
use Rattle.nfs_inodes.proofs.NamedHaltLemmas.{means-as, naming-first, naming-second, number-as}
use Rattle.nfs_inodes.proofs.ShownKindLemmas.{shown-so}
use Rattle.nfs_names.proofs.NamePlanLemmas.{asks-ended}
use Rattle.nfs_names.proofs.link.ask.Goals as goal

pub returns-in_err-file : goal.returns-in_err-file
returns-in_err-file c =
    let a = c.args.arguments.now in
    let p = err_from_is_err_and c.from_residual.result c.from_residual.ensures.1 in
    rw (p.1, p.2)
    (naming-first c.args.draft.now (calls.Nfs (nfs.Link a)) _ c.requires a.file a.place.directory _
    c.as_slice.ensures refl c.in_err-file.ensures.stops)

pub returns-in_err-directory : goal.returns-in_err-directory
returns-in_err-directory c =
    let a = c.args.arguments.now in
    let p = err_from_is_err_and c.from_residual-in_err-directory.result c.from_residual-in_err-directory.ensures.1 in
    rw (p.1, p.2)
    (naming-second c.args.draft.now (calls.Nfs (nfs.Link a)) _ c.requires a.file a.place.directory _
    c.as_slice-2.ensures refl c.in_err-directory.ensures.stops)

pub ask_linked-requires-clause-directory : goal.ask_linked-requires-clause-directory
ask_linked-requires-clause-directory c =
    means-as c.args.draft.now c.args.arguments.now.place.directory _ _ (Ok c.in-Ok-2.directory) c.as_slice-2.ensures
    c.in-Ok-2.is c.in_ok-directory.ensures.means

pub ask_linked-requires-clause-shown : goal.ask_linked-requires-clause-shown
ask_linked-requires-clause-shown c =
    shown-so c.args.draft.now _ c.in-Ok-2.directory c.in-Ok-2.is c.in_ok-directory.ensures.shown

pub ask_linked-requires-clause-target : goal.ask_linked-requires-clause-target
ask_linked-requires-clause-target c =
    number-as c.args.arguments.now.place.directory _ _ c.in-Ok-2.directory c.as_slice-2.ensures c.in-Ok-2.is
    c.in_ok-directory.ensures.number

pub returns : goal.returns
returns c =
    let call = calls.Nfs (nfs.Link c.args.arguments.now) in
    let d = c.args.draft.now in
    asks-ended call d (addresses.Exports ∷ added_at d.view c.args.arguments.now.place) _ c.requires (
      inl (names-exports call d.view),
      covers-among (added_at d.view c.args.arguments.now.place) (named_by call d.view) d.view
          (names-added (nfs.Link c.args.arguments.now) d.view),
    ) c.ask_linked.ensures
