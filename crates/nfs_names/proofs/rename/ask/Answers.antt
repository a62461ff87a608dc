use Rattle.std.proofs.Common.{Ok, refl}
use Rattle.std.proofs.lemmas.Result.{err_from_is_err_and}
use Rattle.nfs_wire.specs.declared.calls.NfsCall.TheVariants as nfs
use Rattle.nfs_machine.specs.declared.calls.Call.TheVariants as calls
use Rattle.nfs_objects.proofs.KnowsLemmas.{covers-among}
use Rattle.nfs_objects.specs.Calls.{named_by}
use Rattle.nfs_inodes.proofs.NamedHaltLemmas.{means-as, naming-first, naming-second, number-as}
use Rattle.nfs_inodes.proofs.ShownKindLemmas.{shown-so}
use Rattle.nfs_names.proofs.NamePlanLemmas.{asks-ended}
use Rattle.nfs_names.proofs.rename.ask.Goals as goal

pub returns-in_err-from : goal.returns-in_err-from
returns-in_err-from c =
    let a = c.args.arguments.now in
    let p = err_from_is_err_and c.from_residual.result c.from_residual.ensures.1 in
    rw (p.1, p.2)
    (naming-first c.args.draft.now (calls.Nfs (nfs.Rename a)) _ c.requires a.from.directory a.to.directory _
    c.as_slice.ensures refl c.in_err-from.ensures.stops)

pub returns-in_err-to : goal.returns-in_err-to
returns-in_err-to c =
    let a = c.args.arguments.now in
    let p = err_from_is_err_and c.from_residual-in_err-to.result c.from_residual-in_err-to.ensures.1 in
    rw (p.1, p.2)
    (naming-second c.args.draft.now (calls.Nfs (nfs.Rename a)) _ c.requires a.from.directory a.to.directory _
    c.as_slice-2.ensures refl c.in_err-to.ensures.stops)

pub ask_renamed-requires-clause-from : goal.ask_renamed-requires-clause-from
ask_renamed-requires-clause-from c =
    means-as c.args.draft.now c.args.arguments.now.from.directory _ _ (Ok c.in-Ok.from) c.as_slice.ensures c.in-Ok.is
    c.in_ok-from.ensures.means

pub ask_renamed-requires-clause-to : goal.ask_renamed-requires-clause-to
ask_renamed-requires-clause-to c =
    means-as c.args.draft.now c.args.arguments.now.to.directory _ _ (Ok c.in-Ok-2.to) c.as_slice-2.ensures c.in-Ok-2.is
    c.in_ok-to.ensures.means

pub ask_renamed-requires-clause-target : goal.ask_renamed-requires-clause-target
ask_renamed-requires-clause-target c =
    number-as c.args.arguments.now.to.directory _ _ c.in-Ok-2.to c.as_slice-2.ensures c.in-Ok-2.is
    c.in_ok-to.ensures.number

pub ask_renamed-requires-clause-shown : goal.ask_renamed-requires-clause-shown
ask_renamed-requires-clause-shown c = (
  shown-so c.args.draft.now _ c.in-Ok.from c.in-Ok.is c.in_ok-from.ensures.shown,
  shown-so c.args.draft.now _ c.in-Ok-2.to c.in-Ok-2.is c.in_ok-to.ensures.shown,
)

pub returns : goal.returns
returns c =
    let call = calls.Nfs (nfs.Rename c.args.arguments.now) in
    let d = c.args.draft.now in
    let named = named_by call d.view in
    asks-ended call d named _ c.requires (covers-among named named d.view (λ a among. among)) c.ask_renamed.ensures
