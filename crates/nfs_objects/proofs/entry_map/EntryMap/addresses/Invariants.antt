use Rattle.std.proofs.Common.{[]}
use Rattle.nfs_objects.proofs.PagePartAddressLemmas.{is_beside_below}
use Rattle.nfs_objects.proofs.entry_map.EntryMap.addresses.Given as goal
use Rattle.nfs_objects.specs.Directories.{HasBesides}

-- the pages are there, and the parts of the buckets before this one
abbrev pub invariant-loop-bucket : goal.invariant-loop-bucket
invariant-loop-bucket l =
    HasBesides (is_beside_below l.self l.directory l.bucket) [] l.addresses.items
