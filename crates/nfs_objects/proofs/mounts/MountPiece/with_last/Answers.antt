use Rattle.std.proofs.Common.{◌∙◌}
use Rattle.std.specs.List.{each_same}
use Rattle.nfs_objects.proofs.MountTableLemmas.{pushed-behind}
use Rattle.nfs_objects.proofs.mounts.MountPiece.with_last.Goals as goal

pub returns : goal.returns
returns c =
    pushed-behind c.args.self.now c.in_ok-mounts.mounts.keys c.insert.new.self.keys c.args.mount
    (each_same _ _ c.in_ok-mounts.ensures.cases ∙ c.self.view_is) c.requires c.in_ok-insert.ensures.keys
