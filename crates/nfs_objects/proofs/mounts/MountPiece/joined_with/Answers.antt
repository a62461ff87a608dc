use Rattle.std.proofs.Common.{◌∙◌}
use Rattle.std.specs.List.{each_same}
use Rattle.nfs_objects.proofs.MountTableLemmas.{joined-behind}
use Rattle.nfs_objects.proofs.mounts.MountPiece.joined_with.Goals as goal

pub returns : goal.returns
returns c =
    joined-behind c.args.self.now c.in_ok-mounts.mounts.keys c.in_ok-others.others.keys c.args.other.now
    c.append.new.self.keys (each_same _ _ c.in_ok-mounts.ensures.cases ∙ c.self.view_is)
    (each_same _ _ c.in_ok-others.ensures.cases ∙ c.other.view_is) c.requires c.in_ok-append.ensures.keys
