use Rattle.std.proofs.Common.{◌≡◌, ◌+◌, drop, take}
use Rattle.std.specs.List.{AllByRecursion}
use Rattle.nfs_machine.specs.Times.{time_of}
use Rattle.nfs_objects.specs.Knows.{Turns}
use Rattle.nfs_objects.specs.Roots.{root_choice}
use Rattle.nfs_objects.specs.Values.{known_at}
use Rattle.nfs_objects.specs.declared.address.Addr.TheVariants as addresses
use Rattle.nfs_inodes.specs.Roots.{ReservedFits, roots_made}
use Rattle.nfs_mount.proofs.NewRootsLemmas.{AreVacant}
use Rattle.nfs_mount.proofs.replace.make_roots.Given as goal

abbrev pub invariant-loop-root : goal.invariant-loop-root
invariant-loop-root l = record {
  numbered : l.export ≡ l.last + l.root-index;
  turns : Turns l.fn.draft l.draft
      (roots_made (time_of l.fn.draft.ctx.moment) (root_choice l.roots l.last) l.last l.root-index);
  vacant : AreVacant l.draft (drop l.root-index l.roots);
  table : known_at l.draft addresses.Exports ≡ known_at l.fn.draft addresses.Exports;
  fit : AllByRecursion ReservedFits (take l.root-index l.roots);
}
