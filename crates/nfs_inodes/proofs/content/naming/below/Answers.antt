use Rattle.std.proofs.Common.{refl}
use Rattle.nfs_inodes.proofs.RelinkLemmas.{other-parent}
use Rattle.nfs_inodes.proofs.content.naming.below.Goals as goal

pub returns-in_default : goal.returns-in_default
returns-in_default c = record {
  content = refl;
  map = refl;
  entries = refl;
  parent = other-parent c.args.content c.args.parent c.in_default.not-Directory;
}
