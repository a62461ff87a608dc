use Rattle.std.proofs.Common.{length}
use Rattle.nfs_objects.specs.Asks.{IsThere}
use Rattle.nfs_objects.specs.declared.address.Addr.TheVariants as addresses
use Rattle.nfs_mount.proofs.WalkLemmas.{GoesOn}
use Rattle.nfs_mount.proofs.mount.walk.Given as goal

abbrev pub invariant-names : goal.invariant-names
invariant-names l = record {
  on : GoesOn l.draft l.root l.initial.names l.number l.names;
  lives : IsThere l.draft.view (addresses.Inode l.number);
}

abbrev pub decreases-names : goal.decreases-names
decreases-names l = length l.names
