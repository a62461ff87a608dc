-- What RENAME comes to (RFC 1813, 3.3.14).
use Rattle.std.specs.Prelude.{◌≡◌, ◌==◌, ◌&&◌, ◌+◌, ◌-◌, ◌^◌, ℕ, Bool, false, not}
use Rattle.std.specs.Prelude.{List, [], Option}
use Rattle.std.specs.Prelude.{Some, None, IfSome, min, option_map, Result, Ok, Err, if◌then◌else◌}
use Rattle.nfs_wire.specs.declared.attributes.Time.{Time}
use Rattle.nfs_wire.specs.declared.calls.RenameArguments.{RenameArguments}
use Rattle.nfs_wire.specs.declared.status.NfsStatus.{NfsStatus}
use Rattle.nfs_wire.specs.declared.status.NfsStatus.TheVariants as status
use Rattle.nfs_machine.specs.Attributes.{entries_of, type_of}
use Rattle.nfs_machine.specs.Checks.{◌>>=◌, DirectoryEntries, changeable, entries_in, entry_of, holding, permitted}
use Rattle.nfs_machine.specs.Checks.{plain_name_checked}
use Rattle.nfs_machine.specs.Exports.{LivingExport}
use Rattle.nfs_machine.specs.Permission.{ToChange}
use Rattle.nfs_machine.specs.RemoveSteps.{object_under}
use Rattle.nfs_machine.specs.RenameSteps.{TellsWithin, rename_end}
use Rattle.nfs_machine.specs.State.{Content, Living, State}
use Rattle.nfs_machine.specs.declared.context.Ctx.{Ctx}
use Rattle.nfs_objects.specs.Calls.{locks_at}
use Rattle.nfs_objects.specs.Drafts.{MayChange}
use Rattle.nfs_objects.specs.Stands.{StoreMeaning}
use Rattle.nfs_objects.specs.Values.{DraftValue}
use Rattle.nfs_objects.specs.declared.address.Addr.{Addr}
use Rattle.nfs_objects.specs.declared.address.Addr.TheVariants as addresses
use Rattle.nfs_objects.specs.declared.modes.Mode.TheVariants.{Exclusive}
use Rattle.nfs_inodes.specs.Kinds.{IsShown}
use Rattle.nfs_inodes.specs.Known.{IsKnown, Names, content_at, listed, shell, target}
use Rattle.nfs_inodes.specs.Makes.{link_lost}
use Rattle.nfs_inodes.specs.Removes.{is_directory_type}
use Rattle.nfs_inodes.specs.Renames.{name_given, name_left, rehomed}
use Rattle.nfs_inodes.specs.declared.found.Known.{Known}
use Rattle.nfs_names.specs.declared.rename.Places.{Places}
use Rattle.nfs_names.specs.declared.rename.Renaming.{Renaming}

-- an end of RENAME: by a test that tells which directories are within which
abbrev pub IsRenameEnd : Ctx → RenameArguments → State → Result (Unit {0} × State) NfsStatus → Type 0
IsRenameEnd ctx a m end = (is_within : (upper lower : ℕ) → Bool) × TellsWithin m is_within ×
    (rename_end m ctx a is_within ≡ end)

-- ---- the checks
-- of both directories, whose entries the rest goes on from
abbrev pub ChecksOfBoth : Type 0 → Type 0
ChecksOfBoth A = (from to : Living) → (DirectoryEntries → DirectoryEntries → Result A NfsStatus) →
    Result A NfsStatus

abbrev pub rename_checked : List LivingExport → Ctx → RenameArguments → ChecksOfBoth (Unit {0} × State)
rename_checked exports ctx a from to rest = do
  _ ← holding (from.export == to.export) status.CrossDevice
  from_entries ← entries_in from.content
  to_entries ← entries_in to.content
  _ ← plain_name_checked status.Invalid status.Invalid a.from.name
  _ ← plain_name_checked status.Invalid status.Invalid a.to.name
  _ ← changeable exports from
  _ ← permitted ctx from ToChange
  _ ← permitted ctx to ToChange
  rest from_entries to_entries

-- where they passed, the rest goes on from the entries of both
abbrev pub both_found : {A B : Type 0} → (from to : Content) →
    (DirectoryEntries → DirectoryEntries → Result A NfsStatus) → Result B NfsStatus → Result A NfsStatus
both_found from to rest (Ok checked) = rest (listed from) (listed to)
both_found from to rest (Err e) = Err e

-- the checks of what is known came to this: they refuse the call, or the rest decides, whatever it is
abbrev pub ComesToBoth : ChecksOfBoth (Unit {0} × State) → (from to : Known) → Result Places NfsStatus → Type 0
ComesToBoth checks x y checked = (from to : Content)
    (rest : DirectoryEntries → DirectoryEntries → Result (Unit {0} × State) NfsStatus) →
    type_of from ≡ x.attributes.kind → type_of to ≡ y.attributes.kind →
    checks (shell x from) (shell y to) rest ≡ both_found from to rest checked

-- ---- what the names lead to
-- this is what a name leads to in a directory
abbrev pub IsUnder : State → Known → List ℕ → Option Known → Type 0
IsUnder m directory name found =
    (object_under m (entry_of (entries_of (content_at m directory.number)) name) ≡ option_map (target m) found) ×
    IfSome found (IsKnown m)

-- the handles name both directories, whose checks pass, and the names lead to these objects
pub record IsRenaming (k : StoreMeaning) (ctx : Ctx) (a : RenameArguments) (r : Renaming) : Type 0 where
  pub from : Names ctx a.from.directory k r.from.known
  pub to : Names ctx a.to.directory k r.to.known
  pub export : r.from.known.export ≡ r.to.known.export
  pub passes : ComesToBoth (rename_checked k.state.exports ctx a) r.from.known r.to.known
      (Ok (record { from = r.from; to = r.to }))
  pub moved : IsUnder k.state r.from.known a.from.name (Some r.moved)
  pub replaced : IsUnder k.state r.to.known a.to.name r.replaced

-- what RENAME changes it may change: both directories, and what the names lead to there
pub record MayRename (d : DraftValue) (r : Renaming) : Type 0 where
  pub from : MayChange d (addresses.Inode r.from.known.number)
  pub to : MayChange d (addresses.Inode r.to.known.number)
  pub moved : MayChange d (addresses.Inode r.moved.number)
  pub replaced : IfSome r.replaced (λ o. MayChange d (addresses.Inode o.number))
  pub locks : d.modes.locks ≡ Exclusive

-- where the locks are of what the new name is taken from
abbrev pub locks_replaced : Renaming → List Addr
locks_replaced r = elim r.replaced [ None ↦ [] | Some o ↦ locks_at o.number ]

-- the draft shows both directories
abbrev pub BothShown : DraftValue → (from to : Known) → Type 0
BothShown d from to = IsShown d from × IsShown d to

-- ---- links
abbrev pub is_one_directory : Renaming → Bool
is_one_directory r = r.to.known.number == r.from.known.number

-- a directory gets a new parent
abbrev pub brings_directory : Renaming → Bool
brings_directory r = is_directory_type r.moved.attributes.kind && not (is_one_directory r)

-- a directory goes that had the new name
abbrev pub replaces_directory : Renaming → Bool
replaces_directory r = elim r.replaced [ None ↦ false | Some o ↦ is_directory_type o.attributes.kind ]

-- the links of the old name's directory, where it is another one, after it; and those of the new name's
abbrev pub links_left : Renaming → ℕ
links_left r =
    let links = r.from.known.attributes.links in
    if is_directory_type r.moved.attributes.kind then links - 1 else links

abbrev pub links_given : Renaming → ℕ
links_given r =
    let links = r.to.known.attributes.links in
    if brings_directory r then (if replaces_directory r then links else min (links + 1) (2 ^ 32 - 1)) else
    (if replaces_directory r then links - 1 else links)

-- how many names an object has, where a directory has one
abbrev pub names_counted : Known → ℕ
names_counted x = if is_directory_type x.attributes.kind then 1 else x.attributes.links

-- ---- the change
-- of both directories; one directory changes once
abbrev pub entry_moved : Time → RenameArguments → Renaming → (cookie : ℕ) → StoreMeaning → StoreMeaning
entry_moved now a r cookie k = name_given now r.to.known.number (if is_one_directory r then Some a.from.name else None)
    (record { name = a.to.name; number = r.moved.number; cookie = cookie }) (links_given r)
    (if is_one_directory r then k else name_left now r.from.known.number a.from.name (links_left r) k)

-- what had the new name loses it
abbrev pub replaced_lost : Time → Renaming → StoreMeaning → StoreMeaning
replaced_lost now r k = elim r.replaced [ None ↦ k | Some o ↦ link_lost now o.number (names_counted o) k ]

abbrev pub renamed : Time → RenameArguments → Renaming → (cookie : ℕ) → StoreMeaning → StoreMeaning
renamed now a r cookie k =
    replaced_lost now r (rehomed now r.moved.number r.to.known.number (entry_moved now a r cookie k))
