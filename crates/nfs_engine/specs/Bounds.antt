-- States whose lists are within the bounds of MOUNT and of NLM (RFC 1813, 5.1.4 and 6.1.4).
use Rattle.std.specs.Prelude.{◌≤◌, length}
use Rattle.std.specs.List.{AllByRecursion}
use Rattle.nfs_machine.specs.Exports.{LivingExport}
use Rattle.nfs_machine.specs.SideLaws.{ExportsFit, LocksFit, MountsFit}
use Rattle.nfs_machine.specs.State.{State}

-- what is mounted and exported is within the bounds of MOUNT, what is held and waits within those of NLM, and no export
-- has more hosts than it may be given
pub record IsWithinBounds (m : State) : Type 0 where
  pub mounts : MountsFit m
  pub locks : LocksFit m
  pub exports : ExportsFit m.exports
  pub hosts : AllByRecursion (λ (e : LivingExport). length e.hosts ≤ 1024) m.exports
