-- An empty piece is no name, so the names that are left stay the same until one is given.
use Rattle.std.proofs.Common.{◌≡◌, ◌+◌, length, []}
use Rattle.std.specs.Option.{option_map_or}
use Rattle.nfs_machine.specs.Paths.{parts}
use Rattle.nfs_mount.proofs.paths.PathNamesIterator.next.Given as goal

abbrev pub invariant-pieces : goal.invariant-pieces
invariant-pieces l = l.fn.self ≡ option_map_or (λ text. parts text.now) l.self-inside.rest []

abbrev pub decreases-pieces : goal.decreases-pieces
decreases-pieces l = option_map_or (λ text. length text.now + 1) l.self-inside.rest 0
