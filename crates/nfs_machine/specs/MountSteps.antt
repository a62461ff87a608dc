-- The step of MOUNT version 3, with one clause of MountStep for each procedure (RFC 1813, appendix I, 5.2).
use Rattle.std.specs.Prelude.{◌≡◌, ℕ, ◌≤◌, ◌-◌, Bool, true, not, ◌&&◌, ◌||◌, List, []}
use Rattle.std.specs.Prelude.{◌∷◌, ◌++◌, length, drop, Option, Some, None, Result, Ok, Err, ok_or, nat_lt}
use Rattle.std.specs.Prelude.{if◌then◌else◌, filter, find, map, ◌⊎◌, ◌==◌}
use Rattle.std.specs.List.{list_any}
use Rattle.std.specs.FinMap.{get}
use Rattle.side_wire.specs.declared.message.Message.{Message}
use Rattle.side_wire.specs.declared.mount.MountCall.{MountCall}
use Rattle.side_wire.specs.declared.mount.MountCall.TheVariants as calls
use Rattle.side_wire.specs.declared.mount.MountReply.{MountReply}
use Rattle.side_wire.specs.declared.mount.MountReply.TheVariants as replies
use Rattle.side_wire.specs.declared.mount.MountStatus.{MountStatus}
use Rattle.side_wire.specs.declared.mount.MountStatus.TheVariants as status
use Rattle.side_wire.specs.declared.mount.lists.ExportNode.{ExportNode}
use Rattle.side_wire.specs.declared.mount.lists.MountBody.{MountBody}
use Rattle.nfs_machine.specs.Attributes.{entries_of, is_directory}
use Rattle.nfs_machine.specs.Bytes.{same_bytes}
pub use Rattle.nfs_machine.specs.Checks.{◌>>=◌}
use Rattle.nfs_machine.specs.Checks.{entry_of}
use Rattle.nfs_machine.specs.Exports.{LivingExport, admits, every_host, export_at}
use Rattle.nfs_machine.specs.Answers.{Answers}
use Rattle.nfs_machine.specs.Paths.{parts, pieces, is_dots, begins_with_slash}
pub use Rattle.nfs_machine.specs.Shown.{handle_at}
use Rattle.nfs_machine.specs.State.{Living, State}
use Rattle.nfs_machine.specs.declared.context.Ctx.{Ctx}
use Rattle.nfs_machine.specs.Resolve.{Named}

-- no directory of any server is called so: INVAL for a path without a leading slash, with NUL, or with a part "." or
-- ".."; then NAMETOOLONG for a part above 255 bytes
abbrev pub path_fault : List ℕ → Option MountStatus
path_fault path =
    if not (begins_with_slash path) || list_any (λ b. b == 0) path || list_any is_dots
    (pieces path) then Some status.Invalid
    else (if list_any (λ part. nat_lt 255 (length part)) (pieces path) then Some status.NameTooLong else None)

-- the export admits the host, and its parts begin the names, which go on with rest
pub record Matches (exports : List LivingExport) (host : List ℕ) (names : List (List ℕ)) (number : ℕ)
    (rest : List (List ℕ)) : Type 0 where
  pub export : LivingExport
  pub stands : export_at exports number ≡ Some export
  pub admitted : admits export.value host ≡ true
  pub begins : names ≡ parts export.path ++ rest

-- of the exports that lead there, the one with the longest path: the least is left to walk
pub record LongestMatch (exports : List LivingExport) (host : List ℕ) (names : List (List ℕ)) (number : ℕ)
    (rest : List (List ℕ)) : Type 0 where
  pub matches : Matches exports host names number rest
  pub longest : (other : ℕ) (more : List (List ℕ)) → Matches exports host names other more →
      length rest ≤ length more

-- a directory; a walk stops at anything else
abbrev pub directory_at : Option Living → Result Living MountStatus
directory_at living = elim living [
  | None ↦ Err status.NoEntry
  | Some o ↦ if is_directory o.content then Ok o else Err status.NotDirectory
]

-- the directory that names lead to from a number, with its own number; no link is followed
unfoldable pub walk : (ℕ → Option Living) → ℕ → List (List ℕ) → Result Named MountStatus
walk find number [] = directory_at (find number) >>= λ d. Ok (record { number = number; object = d })
walk find number (name ∷ names) = directory_at (find number) >>= λ d. ok_or
    (entry_of (entries_of d.content) name) status.NoEntry >>= λ e. walk find e.number names

-- no export that admits the host leads there
abbrev pub NoExport : List LivingExport → (host : List ℕ) → (names : List (List ℕ)) → Type 0
NoExport exports host names = (number : ℕ) (rest : List (List ℕ)) → Matches exports host names number rest → ⊥

-- what a path without fault names for a caller: the walk begins at the root of the export that is chosen
abbrev pub Target : State → Ctx → List ℕ → Result Named MountStatus → Type 0
Target m ctx path found =
    (path_fault path ≡ None) × (number : ℕ) × (rest : List (List ℕ)) ×
    (chosen : LongestMatch m.exports ctx.host (parts path) number rest) ×
    (found ≡ walk (get m.objects) chosen.matches.export.root rest)

-- this path of this host, as it was sent
abbrev pub is_of : List ℕ → List ℕ → MountBody → Bool
is_of host path x = same_bytes x.hostname host && same_bytes x.directory path

abbrev pub is_mounted : List MountBody → MountBody → Bool
is_mounted mounts m = list_any (is_of m.hostname m.directory) mounts

-- the newest that are kept
abbrev pub newest : List MountBody → List MountBody
newest mounts = drop (length mounts - 65536) mounts

-- a pair is added last, unless it is there
abbrev pub with_mount : State → MountBody → State
with_mount m mounted = if is_mounted m.mounts mounted then m else record m
    { mounts = newest (m.mounts ++ mounted ∷ []) }

-- MNT, 5.2.1, in this order: the path has a fault; no export that admits the host leads there; the walk from the root
-- of the one that is chosen ends in a refusal; or the pair is mounted, and the handle answered
abbrev pub MntAnswers : State → Ctx → List ℕ → Result (List ℕ) MountStatus → State → Type 0
MntAnswers old ctx path (Err e) new =
    ((path_fault path ≡ Some e)
    ⊎ ((path_fault path ≡ None) × NoExport old.exports ctx.host (parts path) × (e ≡ status.Access))
    ⊎ Target old ctx path (Err e)) × (new ≡ old)
MntAnswers old ctx path (Ok handle) new =
    (found : Named) × Target old ctx path (Ok found) × (handle ≡ handle_at ctx found.number found.object)
    × (new ≡ with_mount old (record { hostname = ctx.host; directory = path }))

-- the state without some mounts: UMNT, 5.2.3, takes this path of this host away, and UMNTALL, 5.2.4, every path of it
abbrev pub without_mounts : State → (MountBody → Bool) → State
without_mounts m goes = record m { mounts = filter (λ (x : MountBody). not (goes x)) m.mounts }

-- EXPORT, 5.2.5: the exports in the order given, each with the hosts that it admits, and with none where it admits
-- every host
abbrev pub listed_exports : List LivingExport → List ExportNode
listed_exports exports = map
    (λ (e : LivingExport). record
    { directory = e.path; groups = if list_any (λ h. same_bytes h every_host) e.hosts then [] else e.hosts }) exports

-- what the machine may answer a call of MOUNT, and the state that it goes on to
unfoldable pub MountStep : State → Ctx → MountCall → MountReply → List Message → State → Type 0
MountStep old ctx calls.Null reply messages new = Answers replies.Null old reply messages new
MountStep old ctx (calls.Mnt path) reply messages new = (result : Result (List ℕ) MountStatus) ×
    (reply ≡ replies.Mnt result) × (messages ≡ []) × MntAnswers old ctx path result new
-- DUMP, 5.2.2: what is mounted, in the order of mounting
MountStep old ctx calls.Dump reply messages new = Answers (replies.Dump old.mounts) old reply messages new
MountStep old ctx (calls.Unmount path) reply messages new = Answers replies.Unmount
    (without_mounts old (is_of ctx.host path)) reply messages new
MountStep old ctx calls.UnmountAll reply messages new = Answers replies.UnmountAll
    (without_mounts old (λ x. same_bytes x.hostname ctx.host)) reply messages new
MountStep old ctx calls.Export reply messages new = Answers
    (replies.Export (listed_exports old.exports)) old reply messages new
