-- Mounts that a host takes back (RFC 1813, appendix I, 5.2.3 and 5.2.4).
use Rattle.std.specs.Prelude.{Bool}
use Rattle.nfs_machine.specs.Bytes.{same_bytes}
use Rattle.nfs_machine.specs.MountSteps.{is_of}
use Rattle.nfs_objects.specs.declared.mounts.Leaving.{Leaving}
use Rattle.nfs_objects.specs.declared.mounts.Leaving.TheVariants.{Path, Host}
use Rattle.side_wire.specs.declared.mount.lists.MountBody.{MountBody}

-- that of one path, or every one of the host
abbrev pub leaves : Leaving → MountBody → Bool
leaves (Path host path) m = is_of host.now path.now m
leaves (Host host) m = same_bytes m.hostname host.now
