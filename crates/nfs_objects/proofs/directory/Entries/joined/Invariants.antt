use Rattle.std.proofs.Common.{◌≡◌, nat_eq, take}
use Rattle.std.specs.Cmp.Lexicographic.{pointwise}
use Rattle.indexmap.specs.IndexMap.{insert_all}
use Rattle.nfs_objects.proofs.NameMapLemmas.{pairs_of}
use Rattle.nfs_objects.proofs.directory.Entries.joined.Given as goal

-- the names so far were put to those of the first
abbrev pub invariant-loop-place : goal.invariant-loop-place
invariant-loop-place l =
    l.map.entries ≡ insert_all (pointwise nat_eq) (pairs_of l.self) (take l.place (pairs_of l.others))
