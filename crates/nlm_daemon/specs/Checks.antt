-- What the checks of a call find, as the machine has it (RFC 1813, appendix II, 6.1.4 and 6.3).
use Rattle.std.specs.Prelude.{◌≡◌, ◌||◌, ℕ, Bool, true, List, Result, Ok, Err, is_ok, not}
use Rattle.side_wire.specs.declared.message.NlmLock.{NlmLock}
use Rattle.nfs_machine.specs.Checks.{◌>>=◌, bytes_in, holding, is_writable}
use Rattle.nfs_machine.specs.Exports.{LivingExport}
use Rattle.nfs_machine.specs.LockSteps as machine
use Rattle.nfs_machine.specs.Locks.{fits_offsets, range_of}
use Rattle.nfs_machine.specs.State.{Living, Socket}
use Rattle.nfs_objects.specs.Knows.{Knows}
use Rattle.nfs_objects.specs.Values.{DraftValue}
use Rattle.nfs_inodes.specs.Known.{HasNumber, shell}
use Rattle.nfs_inodes.specs.Locks.{IsFileAt}
use Rattle.nfs_inodes.specs.declared.found.Known.{Known}
use Rattle.nfs_inodes.specs.declared.kinds.KnownFile.{KnownFile}
use Rattle.nlm_daemon.specs.declared.checking.LockFault.{LockFault}
use Rattle.nlm_daemon.specs.declared.checking.LockFault.TheVariants as faults
use Rattle.nlm_daemon.specs.declared.checking.FileRange.{FileRange}

abbrev pub fault_value : LockFault → machine.LockFault
fault_value faults.StaleHandle = machine.StaleHandle
fault_value faults.NotRegular = machine.NotRegular
fault_value faults.RangeTooBig = machine.RangeTooBig
fault_value faults.ReadOnly = machine.ReadOnly

-- whether a call may go on with what is known of an object: its export is not read only, where the call asks to write
abbrev pub may_write : List LivingExport → Known → (writes : Bool) → Bool
may_write exports x writes = not writes || is_writable exports (shell x Socket)

-- how what a handle names is judged: it is a regular file, the range fits, and the export is not read only, where the
-- call asks to write
abbrev pub judged : List LivingExport → Living → (number : ℕ) → (fits writes : Bool) → Result ℕ machine.LockFault
judged exports object number fits writes =
    holding (is_ok (bytes_in object.content)) machine.NotRegular >>= λ _.
    holding fits machine.RangeTooBig >>= λ _.
    holding (not writes || is_writable exports object) machine.ReadOnly >>= λ _.
    Ok number

-- the number of the file, or the fault
abbrev pub file_found : Result KnownFile LockFault → Result ℕ machine.LockFault
file_found (Ok file) = Ok file.known.number
file_found (Err fault) = Err (fault_value fault)

abbrev pub place_found : Result FileRange LockFault → Result ℕ machine.LockFault
place_found (Ok place) = Ok place.file.known.number
place_found (Err fault) = Err (fault_value fault)

-- the draft knows that the file lives
abbrev pub IsLiving : DraftValue → KnownFile → Type 0
IsLiving d file = Knows d (λ k. IsFileAt k.state file.known.number file.known.export)

-- the handle names it besides, and the range is the call's, which fits offsets
pub record IsPlaceOf (d : DraftValue) (lock : NlmLock) (place : FileRange) : Type 0 where
  pub lives : IsLiving d place.file
  pub number : HasNumber lock.file place.file.known.number
  pub range : place.range ≡ range_of lock
  pub fits : fits_offsets lock ≡ true
