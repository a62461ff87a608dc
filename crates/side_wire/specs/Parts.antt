-- The values of what was read of NLM before its byte strings are shared.
use Rattle.nfs_xdr.specs.Types.{Value}
use Rattle.side_wire.specs.NlmTypes.{nlm4_lock, nlm4_holder, nlm4_testrply, nlm4_share, mode_number, access_number}
use Rattle.side_wire.specs.declared.nlm.parts.HolderParts.{HolderParts}
use Rattle.side_wire.specs.declared.nlm.parts.LockParts.{LockParts}
use Rattle.side_wire.specs.declared.nlm.parts.ShareParts.{ShareParts}
use Rattle.side_wire.specs.declared.nlm.parts.StatusParts.{StatusParts}
use Rattle.side_wire.specs.declared.nlm.parts.StatusParts.TheVariants as status

abbrev pub lock_parts_value : LockParts → Value nlm4_lock
lock_parts_value l = (l.caller_name, (l.file, (l.owner, (l.process, (l.offset, l.length)))))

abbrev pub holder_parts_value : HolderParts → Value nlm4_holder
holder_parts_value h = (h.exclusive, (h.process, (h.owner, (h.offset, h.length))))

abbrev pub status_parts_value : StatusParts → Value nlm4_testrply
status_parts_value status.Granted = (0, tt)
status_parts_value (status.Denied holder) = (1, holder_parts_value holder)
status_parts_value status.DeniedNoLocks = (2, tt)
status_parts_value status.Blocked = (3, tt)
status_parts_value status.DeniedGracePeriod = (4, tt)
status_parts_value status.Deadlock = (5, tt)
status_parts_value status.ReadOnly = (6, tt)
status_parts_value status.StaleHandle = (7, tt)
status_parts_value status.FileTooBig = (8, tt)
status_parts_value status.Failed = (9, tt)

abbrev pub share_parts_value : ShareParts → Value nlm4_share
share_parts_value s = (s.caller_name, (s.file, (s.owner, (mode_number s.mode, access_number s.access))))
