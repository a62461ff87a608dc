use Rattle.nfs_mount.proofs.PathPartLemmas.{length_parts}
use Rattle.nfs_mount.proofs.paths.PathNames.of.Goals as goal

pub returns-clause-count : goal.returns-clause-count
returns-clause-count c = length_parts c.args.path.now
