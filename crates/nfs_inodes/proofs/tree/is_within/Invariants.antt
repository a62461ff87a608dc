-- So many directories of the way up were read.
use Rattle.nfs_inodes.proofs.ClimbLemmas.{Climbs}
use Rattle.nfs_inodes.proofs.tree.is_within.Given as goal

abbrev pub invariant-loop-level : goal.invariant-loop-level
invariant-loop-level l = Climbs l.draft l.upper l.directory.known.number l.number l._level
