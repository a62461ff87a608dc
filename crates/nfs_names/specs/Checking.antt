-- Checks of the directory that a call names, and what comes after them.
use Rattle.std.specs.Prelude.{◌≡◌, ℕ, List, Result}
use Rattle.nfs_wire.specs.declared.status.NfsStatus.{NfsStatus}
use Rattle.nfs_machine.specs.Attributes.{type_of}
use Rattle.nfs_machine.specs.Checks.{◌>>=◌, DirectoryEntries, changeable, entries_in, permitted, plain_name_checked}
use Rattle.nfs_machine.specs.Exports.{LivingExport}
use Rattle.nfs_machine.specs.Permission.{ToChange}
use Rattle.nfs_machine.specs.State.{Content, Living, State}
use Rattle.nfs_machine.specs.declared.context.Ctx.{Ctx}
use Rattle.nfs_inodes.specs.Known.{entries_found, shell}
use Rattle.nfs_inodes.specs.declared.found.Known.{Known}

-- of an object, whose entries the rest goes on from
abbrev pub ChecksOf : Type 0 → Type 0
ChecksOf A = Living → (DirectoryEntries → Result A NfsStatus) → Result A NfsStatus

-- the checks of what is known came to this: they refuse the call, or the rest decides, whatever it is
abbrev pub ComesTo : {A B : Type 0} → ChecksOf A → Known → Result B NfsStatus → Type 0
ComesTo {A} checks x checked = (content : Content) (rest : DirectoryEntries → Result A NfsStatus) →
    type_of content ≡ x.attributes.kind → checks (shell x content) rest ≡ entries_found content rest checked

-- the checks of a directory in which a name is to change, these being the statuses for "." and "..", and then the rest
abbrev pub names_checked : (own above : NfsStatus) → List LivingExport → Ctx → List ℕ →
    ChecksOf (Unit {0} × State)
names_checked own above exports ctx name o rest = do
  entries ← entries_in o.content
  _ ← plain_name_checked own above name
  _ ← changeable exports o
  _ ← permitted ctx o ToChange
  rest entries
