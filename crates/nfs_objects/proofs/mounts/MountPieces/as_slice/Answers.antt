use Rattle.std.proofs.Common.{length, map, subst}
use Rattle.std.specs.Arc.{arc_value}
use Rattle.nfs_objects.proofs.MountTableLemmas.{held-counted}
use Rattle.nfs_objects.proofs.mounts.MountPieces.as_slice.Goals as goal
use Rattle.nfs_objects.specs.MountTables.{AreInPieces, items_in, joined}

pub returns-in-Some-clause-held : goal.returns-in-Some-clause-held
returns-in-Some-clause-held c =
    subst (λ pieces. AreInPieces pieces (length (joined pieces))) c.self.view_is
    (held-counted (map arc_value (items_in c.self.inside.pieces)) c.self.inside.len c.self.invariant)

pub returns-in-None-clause-held : goal.returns-in-None-clause-held
returns-in-None-clause-held c =
    subst (λ pieces. AreInPieces pieces (length (joined pieces))) c.self.view_is
    (held-counted (map arc_value (items_in c.self.inside.pieces)) c.self.inside.len c.self.invariant)
