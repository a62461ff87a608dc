use Rattle.std.proofs.Common.{◌≡◌, drop, map, option_map, None}
use Rattle.nfs_objects.specs.Values.{pointed, write_value, written_at}
use Rattle.nfs_objects.proofs.draft.Draft.written.Given as goal

abbrev pub invariant-loop-write : goal.invariant-loop-write
invariant-loop-write l =
    written_at (option_map pointed l.last) (map write_value (drop l.write-index l.write-items))
    l.address ≡ written_at None l.self.writes l.address
