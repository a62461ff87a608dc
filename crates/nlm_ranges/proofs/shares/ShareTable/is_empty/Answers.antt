use Rattle.std.proofs.Common.{subst}
use Rattle.std.specs.List.{IsDistinct}
use Rattle.nfs_machine.specs.Locks.{same_sharer}
use Rattle.nfs_machine.specs.LocksFormed.{NoSharesConflict}
use Rattle.nlm_ranges.proofs.shares.ShareTable.is_empty.Goals as goal

pub returns-clause-once : goal.returns-clause-once
returns-clause-once c = subst (IsDistinct same_sharer) c.self.view_is c.self.invariant.once

pub returns-clause-apart : goal.returns-clause-apart
returns-clause-apart c = subst NoSharesConflict c.self.view_is c.self.invariant.apart
