use Rattle.std.proofs.Common.{◌++◌, ap, drop, ◌∙◌}
use Rattle.nfs_objects.proofs.mounts.MountTable.iter.Goals as goal
use Rattle.nfs_objects.specs.MountTables.{joined}

pub behind-requires : goal.behind-requires
behind-requires c = c.self.invariant.within

pub returns : goal.returns
returns c =
    c.behind.ensures
    ∙ ap (λ latest. drop c.self.inside.gone (joined c.self.inside.older) ++ latest) c.as_slice.ensures
    ∙ c.self.view_is
