-- What a handle that a caller sends names (RFC 1813, 2.6: NFS3ERR_BADHANDLE, NFS3ERR_STALE).
use Rattle.std.specs.Prelude.{ℕ, ◌&&◌, List, Option, Some, None, if◌then◌else◌, ◌==◌}
use Rattle.std.specs.FinMap.{get}
use Rattle.nfs_machine.specs.Exports.{LivingExport, export_admits, export_at}
use Rattle.nfs_machine.specs.Handles.{handle_of}
use Rattle.nfs_machine.specs.State.{Living, State}
use Rattle.nfs_machine.specs.declared.context.Ctx.{Ctx}
use Rattle.nfs_machine.specs.declared.handle.Handle.{Handle}

-- what a handle or a name leads to: a living object, with its number
pub record Named : Type 0 where
  pub number : ℕ
  pub object : Living

pub data Resolved : Type 0 where
  -- no handle of this server's form
  BadHandle : Resolved
  -- a handle that names nothing for this caller
  Stale : Resolved
  Names : (number : ℕ) (object : Living) → Resolved

abbrev pub living_at : Option Living → Handle → Resolved
living_at living h = elim living [
  | None ↦ Stale
  | Some object ↦ if (object.generation == h.generation) &&
      (object.export == h.export) then Names h.fileid object else Stale
]

-- what a handle names among the objects that a look-up finds, below these exports
abbrev pub named : (ℕ → Option Living) → List LivingExport → Ctx → Option Handle → Resolved
named find exports ctx handle =
    elim handle [
      | None ↦ BadHandle
      | Some h ↦ if (h.start == ctx.start) && export_admits (export_at exports h.export) ctx.host then living_at
          (find h.fileid) h else Stale
    ]

abbrev pub resolve : State → Ctx → List ℕ → Resolved
resolve m ctx bytes = named (get m.objects) m.exports ctx (handle_of bytes)
