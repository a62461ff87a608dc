use Rattle.std.proofs.Common.{◌≡◌, ◌+◌, [], take}
use Rattle.nfs_objects.specs.Calls.{IsAmong, root_usages}
use Rattle.nfs_inodes.specs.Asking.{AsksFor}
use Rattle.nfs_inodes.proofs.roots.ask_roots.Given as goal

abbrev pub invariant-loop-root : goal.invariant-loop-root
invariant-loop-root l = record {
  numbered : l.export ≡ l.last + l.root-index;
  asks : AsksFor l.draft (IsAmong (root_usages l.last (take l.root-index l.roots))) (λ a. ⊥) [] l.asking.asked.items;
}
