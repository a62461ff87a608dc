-- What LINK comes to (RFC 1813, 3.3.15).
use Rattle.std.specs.Prelude.{◌≡◌, ◌==◌, not, List, ℕ, Result}
use Rattle.nfs_wire.specs.declared.calls.LinkArguments.{LinkArguments}
use Rattle.nfs_wire.specs.declared.status.NfsStatus.{NfsStatus}
use Rattle.nfs_wire.specs.declared.status.NfsStatus.TheVariants as status
use Rattle.nfs_machine.specs.Attributes.{is_directory, type_of}
use Rattle.nfs_machine.specs.Checks.{◌>>=◌, DirectoryEntries, holding}
use Rattle.nfs_machine.specs.Exports.{LivingExport}
use Rattle.nfs_machine.specs.LinkSteps.{link_end}
use Rattle.nfs_machine.specs.State.{Content, Living, State}
use Rattle.nfs_machine.specs.declared.context.Ctx.{Ctx}
use Rattle.nfs_inodes.specs.Known.{entries_found, shell}
use Rattle.nfs_inodes.specs.declared.found.Known.{Known}
use Rattle.nfs_inodes.specs.declared.kinds.KnownDirectory.{KnownDirectory}
use Rattle.nfs_names.specs.Checking.{names_checked}

abbrev pub IsLinkEnd : Ctx → LinkArguments → State → Result (Unit {0} × State) NfsStatus → Type 0
IsLinkEnd ctx a m end = link_end m ctx a ≡ end

-- the checks of the file and of its new directory, and then the rest
abbrev pub link_checked : List LivingExport → Ctx → List ℕ → (file directory : Living) →
    (DirectoryEntries → Result (Unit {0} × State) NfsStatus) → Result (Unit {0} × State) NfsStatus
link_checked exports ctx name file directory rest = do
  _ ← holding (file.export == directory.export) status.CrossDevice
  _ ← holding (not (is_directory file.content)) status.Invalid
  names_checked status.Invalid status.Invalid exports ctx name directory rest

-- the checks of what is known came to this: they refuse the call, or the rest decides, whatever it is
abbrev pub LinkComesTo : List LivingExport → Ctx → List ℕ → (file directory : Known) →
    Result KnownDirectory NfsStatus → Type 0
LinkComesTo exports ctx name file directory checked =
    (own content : Content) (rest : DirectoryEntries → Result (Unit {0} × State) NfsStatus) →
    type_of own ≡ file.attributes.kind → type_of content ≡ directory.attributes.kind →
    link_checked exports ctx name (shell file own) (shell directory content) rest ≡
    entries_found content rest checked
