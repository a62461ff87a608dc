-- The checks that procedures of NFS share. Each names the status of a call that fails it (RFC 1813, 2.6). Where its own
-- definition sets no other order, a procedure makes them in this one: handles, that two handles are of one export,
-- kinds, names, a read-only export, permission, and then its own.
use Rattle.std.specs.Prelude.{ℕ, Bool, true, not, ◌&&◌, ◌||◌, List, length, Option, Some, None, Result, Ok}
use Rattle.std.specs.Prelude.{Err, nat_le, codes, find, if◌then◌else◌, ◌==◌}
use Rattle.std.specs.List.{list_any}
use Rattle.nfs_wire.specs.declared.status.NfsStatus.{NfsStatus}
use Rattle.nfs_wire.specs.declared.status.NfsStatus.TheVariants as status
use Rattle.nfs_machine.specs.Bytes.{same_bytes}
use Rattle.nfs_machine.specs.Exports.{LivingExport, export_at}
use Rattle.nfs_machine.specs.Paths.{slash}
use Rattle.nfs_machine.specs.Permission.{Right, may}
use Rattle.nfs_machine.specs.Resolve.{Named, Resolved, BadHandle, Stale, Names}
use Rattle.nfs_machine.specs.State.{Content, Regular, Directory, Link, Entry, Living}
use Rattle.nfs_machine.specs.declared.context.Ctx.{Ctx}

infixl 10 ◌>>=◌
abbrev pub ◌>>=◌ : {A B E : Type 0} → Result A E → (A → Result B E) → Result B E
result >>= next = elim result [ Ok x ↦ next x | Err e ↦ Err e ]

abbrev pub holding : {E : Type 0} → Bool → E → Result (Unit {0}) E
holding b e = if b then Ok tt else Err e

-- what a handle names
abbrev pub object_of : Resolved → Result Named NfsStatus
object_of resolved = elim resolved [
  | BadHandle ↦ Err status.BadHandle
  | Stale ↦ Err status.Stale
  | Names number object ↦ Ok (record { number = number; object = object })
]

-- what is in a directory: its entries, and the greatest cookie that it ever used
pub record DirectoryEntries : Type 0 where
  pub list : List Entry
  pub last_cookie : ℕ

abbrev pub entries_in : Content → Result DirectoryEntries NfsStatus
entries_in content = elim content [
  | Directory entries last_cookie ↦ Ok (record { list = entries; last_cookie = last_cookie })
  | other ↦ Err status.NotDirectory
]

-- the bytes of a regular file
abbrev pub bytes_in : Content → Result (List ℕ) NfsStatus
bytes_in content = elim content [ Regular bytes ↦ Ok bytes | other ↦ Err status.Invalid ]

-- the text of a link
abbrev pub text_in : Content → Result (List ℕ) NfsStatus
text_in content = elim content [ Link text ↦ Ok text | other ↦ Err status.Invalid ]

-- a name that may stand in a directory: at most 255 bytes, not empty, and no slash and no NUL in it
abbrev pub name_checked : List ℕ → Result (Unit {0}) NfsStatus
name_checked name = do
  _ ← holding (nat_le (length name) 255) status.NameTooLong
  holding (nat_le 1 (length name) && not (list_any (λ b. (b == slash) || (b == 0)) name)) status.Access

-- a name that a call makes, takes away or moves: "." and ".." are there in every directory, and each has its status
abbrev pub plain_name_checked : (self above : NfsStatus) → List ℕ → Result (Unit {0}) NfsStatus
plain_name_checked self above name = name_checked name >>= λ _. if same_bytes (codes ".") name then Err self else
    (if same_bytes (codes "..") name then Err above else Ok tt)

-- the object may be changed: its export is there and not read only
abbrev pub is_writable : List LivingExport → Living → Bool
is_writable exports o = not (elim (export_at exports o.export) [ None ↦ true | Some e ↦ e.read_only ])

abbrev pub changeable : List LivingExport → Living → Result (Unit {0}) NfsStatus
changeable exports o = holding (is_writable exports o) status.ReadOnly

abbrev pub permitted : Ctx → Living → Right → Result (Unit {0}) NfsStatus
permitted ctx o right = holding (may ctx.ids o right) status.Access

-- the entry of a name
abbrev pub entry_of : List Entry → List ℕ → Option Entry
entry_of entries name = find (λ e. same_bytes e.name name) entries

-- the greatest number of links of an object (3.3.20: linkmax)
abbrev pub link_limit : ℕ
link_limit = 32000

-- the most bytes of a symbolic link's text (3.3.10: symlink_data; the bound is this server's own)
abbrev pub text_limit : ℕ
text_limit = 4096
