use Rattle.std.proofs.Common.{List, Global, ap, ◌∙◌, rules, tests}
use Rattle.std.specs.Arc.{arc_value}
use Rattle.std.specs.List.{list_any}
use Rattle.std.specs.declared.sync.Arc.{Arc}
use Rattle.std.proofs.lemmas.Iterator.{YieldsList-from_slice}
use Rattle.std.proofs.lemmas.Iterator.Search.{any_from_yields_List}
use Rattle.nfs_machine.specs.MountSteps.{is_mounted, is_of}
use Rattle.nfs_objects.proofs.MountTableLemmas.{any-joined}
use Rattle.nfs_objects.proofs.mounts.MountPieces.is_listed.Goals as goal
use Rattle.nfs_objects.specs.MountTables.{joined, mounted}
use Rattle.side_wire.specs.declared.mount.lists.MountBody.{MountBody}

pub returns : goal.returns
returns c =
    let host = c.args.sought.host.now in
    let path = c.args.sought.path.now in
    any_from_yields_List
    (λ (piece : Arc (List MountBody) Global). is_mounted (arc_value piece) (mounted host path))
    _ _ c.any.result c.any.ensures.ran (YieldsList-from_slice c.as_slice.result.now cc)
    (λ x b q k. search (rules, tests))
    ∙ any-joined (is_of host path) arc_value c.as_slice.result.now
    ∙ ap (λ pieces. list_any (is_of host path) (joined pieces)) c.as_slice.ensures.pieces
