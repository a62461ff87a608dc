use Rattle.std.proofs.Common.{filter, not, ap, ◌∙◌, rules, tests}
use Rattle.std.proofs.lemmas.Fn.{filter_same}
use Rattle.std.specs.List.{each_same}
use Rattle.nfs_objects.proofs.mounts.MountPiece.without.Goals as goal
use Rattle.nfs_objects.specs.Leaving.{leaves}
use Rattle.side_wire.specs.declared.mount.lists.MountBody.{MountBody}

pub returns : goal.returns
returns c =
    filter_same _ (λ (m : MountBody). not (leaves c.args.leaving m)) _ (λ x b q called. search (rules, tests)) _ _
    c.retain.ensures.filtered
    ∙ ap (filter (λ (m : MountBody). not (leaves c.args.leaving m)))
    (each_same _ _ c.in_ok-mounts.ensures.cases ∙ c.self.view_is)
