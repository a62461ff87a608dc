-- What LOOKUP comes to in the directory that its handle names (RFC 1813, 3.3.3).
use Rattle.std.specs.Prelude.{ℕ, List, Some, Result, Ok, ok_or}
use Rattle.std.specs.FinMap.{get}
use Rattle.nfs_wire.specs.declared.replies.Found.{Found}
use Rattle.nfs_wire.specs.declared.status.NfsStatus.{NfsStatus}
use Rattle.nfs_wire.specs.declared.status.NfsStatus.TheVariants as status
use Rattle.nfs_machine.specs.Attributes.{attributes_of}
use Rattle.nfs_machine.specs.Checks.{◌>>=◌, DirectoryEntries, entries_in, name_checked, permitted}
use Rattle.nfs_machine.specs.NameSteps.{leads_to}
use Rattle.nfs_machine.specs.Permission.{ToSearch}
use Rattle.nfs_machine.specs.Shown.{handle_at}
use Rattle.nfs_machine.specs.State.{State}
use Rattle.nfs_machine.specs.declared.context.Ctx.{Ctx}
use Rattle.nfs_objects.specs.Stands.{StoreMeaning}
use Rattle.nfs_inodes.specs.Known.{object_at}
use Rattle.nfs_inodes.specs.declared.found.Known.{Known}
use Rattle.nfs_names.specs.Checking.{ChecksOf}

-- once the checks passed: the object that the name leads to
abbrev pub found_under : State → Ctx → (number parent : ℕ) → List ℕ → DirectoryEntries →
    Result Found NfsStatus
found_under m ctx number parent name entries = do
  child ← leads_to number parent entries.list name
  o ← ok_or (get m.objects child) status.NoEntry
  Ok (record { object = handle_at ctx child o; attributes = Some (attributes_of m child o) })

-- the checks, and then the rest
abbrev pub searched : Ctx → List ℕ → ChecksOf Found
searched ctx name o rest = do
  entries ← entries_in o.content
  _ ← name_checked name
  _ ← permitted ctx o ToSearch
  rest entries

abbrev pub found_in : StoreMeaning → Ctx → Known → List ℕ → Result Found NfsStatus
found_in k ctx x name = searched ctx name (object_at k.state x)
    (found_under k.state ctx x.number (k.parents x.number) name)
