-- Which calls of MOUNT and NLM change something, and so are not to be executed again where their record comes once more
-- (RFC 1813, 4.5).
use Rattle.std.specs.Prelude.{Bool, true, false}
use Rattle.side_wire.specs.declared.mount.MountCall.{MountCall}
use Rattle.side_wire.specs.declared.mount.MountCall.TheVariants as mount
use Rattle.side_wire.specs.declared.nlm.NlmCall.{NlmCall}
use Rattle.side_wire.specs.declared.nlm.NlmCall.TheVariants as nlm

abbrev pub is_changing_mount : MountCall → Bool
is_changing_mount (mount.Mnt path) = true
is_changing_mount (mount.Unmount path) = true
is_changing_mount mount.UnmountAll = true
is_changing_mount call = false

-- calls of NLM that may change what files have of locks, shares, requests and grants; what TEST_MSG changes is messages
abbrev pub changes_locks : NlmCall → Bool
changes_locks (nlm.Lock a) = true
changes_locks (nlm.Cancel a) = true
changes_locks (nlm.Unlock a) = true
changes_locks (nlm.LockMsg a) = true
changes_locks (nlm.CancelMsg a) = true
changes_locks (nlm.UnlockMsg a) = true
changes_locks (nlm.GrantedRes r) = true
changes_locks (nlm.Share a) = true
changes_locks (nlm.Unshare a) = true
changes_locks (nlm.NmLock a) = true
changes_locks (nlm.FreeAll a) = true
changes_locks call = false

-- the MSG calls, procedures 6 to 10, put messages
abbrev pub is_changing_nlm : NlmCall → Bool
is_changing_nlm (nlm.TestMsg a) = true
is_changing_nlm (nlm.GrantedMsg a) = true
is_changing_nlm call = changes_locks call
