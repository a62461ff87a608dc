use Rattle.nfs_objects.proofs.entry_map.push_parts.Given as goal
use Rattle.nfs_objects.specs.Directories.{HasBesides, is_part_of}

-- the parts before this one are there
abbrev pub invariant-loop-part : goal.invariant-loop-part
invariant-loop-part l =
    HasBesides (is_part_of l.directory l.bucket l.part) l.fn.addresses.items l.addresses.items
