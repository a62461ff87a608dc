-- What the handles name that calls are answered with (RFC 1813, 2.5: nfs_fh3; 5.2.1: MNT).
use Rattle.std.specs.Prelude.{◌≡◌, ℕ, ◌<◌, ◌^◌, true, List, Option, Some, None, Ok, IfOk}
use Rattle.std.specs.List.{AllByRecursion}
use Rattle.nfs_wire.specs.declared.attributes.Attributes.{Attributes}
use Rattle.nfs_wire.specs.declared.calls.NfsCall.{NfsCall}
use Rattle.nfs_wire.specs.declared.entries.FullEntry.{FullEntry}
use Rattle.nfs_wire.specs.declared.replies.Made.{Made}
use Rattle.nfs_wire.specs.declared.replies.NfsReply.{NfsReply}
use Rattle.nfs_wire.specs.declared.replies.NfsReply.TheVariants as replies
use Rattle.side_wire.specs.declared.message.Message.{Message}
use Rattle.side_wire.specs.declared.mount.MountCall.TheVariants as mount
use Rattle.side_wire.specs.declared.mount.MountReply.TheVariants as mount_replies
use Rattle.nfs_machine.specs.Attributes.{attributes_of, is_directory}
use Rattle.nfs_machine.specs.Laws.{NumbersFit}
use Rattle.nfs_machine.specs.MountSteps.{MountStep}
use Rattle.nfs_machine.specs.NfsSteps.{NfsStep}
use Rattle.nfs_machine.specs.Resolve.{Names, resolve}
use Rattle.nfs_machine.specs.State.{Living, State}
use Rattle.nfs_machine.specs.WellFormed.{WellFormed}
use Rattle.nfs_machine.specs.declared.context.Ctx.{Ctx}

-- for this caller the handle names a living object, and these are its attributes
pub record Resolves (m : State) (ctx : Ctx) (handle : List ℕ) (attributes : Option Attributes) : Type 0 where
  pub number : ℕ
  pub object : Living
  pub is_named : resolve m ctx handle ≡ Names number object
  pub are_shown : attributes ≡ Some (attributes_of m number object)

-- so does one that may be left out; it is there
abbrev pub IsTold : State → Ctx → Option (List ℕ) → Option Attributes → Type 0
IsTold m ctx handle attributes = elim handle [ None ↦ ⊥ | Some h ↦ Resolves m ctx h attributes ]

abbrev pub MadeIsTold : State → Ctx → Made → Type 0
MadeIsTold m ctx made = IsTold m ctx made.object made.attributes

abbrev pub EntryIsTold : State → Ctx → FullEntry → Type 0
EntryIsTold m ctx entry = IsTold m ctx entry.object entry.attributes

-- so does each handle of a reply
abbrev pub HandlesResolve : State → Ctx → NfsReply → Type 0
HandlesResolve m ctx (replies.Lookup r) = IfOk r.result (λ found. Resolves m ctx found.object found.attributes)
HandlesResolve m ctx (replies.Create r) = IfOk r.result (MadeIsTold m ctx)
HandlesResolve m ctx (replies.Mkdir r) = IfOk r.result (MadeIsTold m ctx)
HandlesResolve m ctx (replies.Symlink r) = IfOk r.result (MadeIsTold m ctx)
HandlesResolve m ctx (replies.Mknod r) = IfOk r.result (MadeIsTold m ctx)
HandlesResolve m ctx (replies.Readdirplus r) = IfOk r.result (λ page. AllByRecursion (EntryIsTold m ctx) page.entries)
HandlesResolve m ctx reply = Unit {0}

-- In the state after a step, for the host that called, each handle in the answer names the object whose attributes
-- stand beside it. The start number has 64 bits.
abbrev pub NfsHandlesResolve : Type 0
NfsHandlesResolve = (old : State) (ctx : Ctx) (call : NfsCall) (reply : NfsReply) (messages : List Message)
    (new : State)
    → WellFormed old → NumbersFit old → ctx.start < 2 ^ 64 → NfsStep old ctx call reply messages new →
    HandlesResolve new ctx reply

-- for this caller the handle names a living directory
pub record NamesDirectory (m : State) (ctx : Ctx) (handle : List ℕ) : Type 0 where
  pub number : ℕ
  pub object : Living
  pub is_named : resolve m ctx handle ≡ Names number object
  pub directory : is_directory object.content ≡ true

-- so does the handle that MNT answers
abbrev pub MntHandlesResolve : Type 0
MntHandlesResolve = (old : State) (ctx : Ctx) (path handle : List ℕ) (messages : List Message) (new : State)
    → WellFormed old → NumbersFit old → ctx.start < 2 ^ 64
    → MountStep old ctx (mount.Mnt path) (mount_replies.Mnt (Ok handle)) messages new →
    NamesDirectory new ctx handle
