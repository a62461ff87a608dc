use Rattle.std.proofs.Common.{◌++◌, refl}
use Rattle.nfs_wire.specs.declared.calls.NfsCall.TheVariants as nfs
use Rattle.nfs_machine.specs.declared.calls.Call.TheVariants as calls
use Rattle.nfs_objects.proofs.KnowsLemmas.{names-added}
use Rattle.nfs_objects.specs.Calls.{added_at}
use Rattle.nfs_inodes.proofs.NamedHaltLemmas.{making}
use Rattle.nfs_inodes.proofs.ReaderHaltLemmas.{halts-as}
use Rattle.nfs_inodes.specs.Stops.{StopsMaking, brought_by}
use Rattle.nfs_names.specs.Plans.{MayHalt}
use Rattle.nfs_names.proofs.mkdir.ask.Goals as goal

pub returns : goal.returns
returns c =
    let d = c.args.draft.now in
    let a = c.args.arguments.now in
    let call = calls.Nfs (nfs.Mkdir a) in
    halts-as (StopsMaking d (brought_by d.view a.place.directory ++ added_at d.view a.place)) (MayHalt call d) _
    (λ halt. making d call halt c.requires a.place.directory _ refl refl (added_at d.view a.place)
    (names-added (nfs.Mkdir a) d.view) refl)
    c.ask.ensures
