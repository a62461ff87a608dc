use Rattle.std.proofs.Common.{◌≡◌, ◌++◌, drop, map}
use Rattle.nfs_objects.specs.Rooms.{mapped}
use Rattle.nfs_objects.specs.Values.{seen_of, shown_at}
use Rattle.nfs_objects.proofs.view.entries.ViewEntries.get.Given as goal

abbrev pub invariant-loop-pair : goal.invariant-loop-pair
invariant-loop-pair l =
    shown_at (map seen_of (drop l.pair-index l.pair-items) ++ map seen_of (mapped l.self-inside.behind)) l.address
    ≡ shown_at l.self.seen l.address
