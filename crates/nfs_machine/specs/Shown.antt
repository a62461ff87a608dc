-- What replies show of the objects that a call named, and how the state changes at one object (RFC 1813, 2.5:
-- post_op_attr, wcc_data).
use Rattle.std.specs.Prelude.{ℕ, List, Option, Some, None, option_map}
use Rattle.std.specs.FinMap.{get, insert}
use Rattle.nfs_wire.specs.declared.attributes.Attributes.{Attributes}
use Rattle.nfs_wire.specs.declared.attributes.Time.{Time}
use Rattle.nfs_wire.specs.declared.attributes.Wcc.{Wcc}
use Rattle.nfs_wire.specs.declared.attributes.WeakAttributes.{WeakAttributes}
use Rattle.nfs_machine.specs.Attributes.{attributes_of, size_of}
use Rattle.nfs_machine.specs.Handles.{handle_bytes}
use Rattle.nfs_machine.specs.Resolve.{Resolved, BadHandle, Names}
use Rattle.nfs_machine.specs.State.{Content, Living, State}
use Rattle.nfs_machine.specs.Times.{touch}
use Rattle.nfs_machine.specs.declared.context.Ctx.{Ctx}

-- the attributes of what lives at a number
abbrev pub attributes_at : State → ℕ → Option Attributes
attributes_at m number = option_map (attributes_of m number) (get m.objects number)

-- the attributes of what a handle named, in the state after the call: always shown where it named something
abbrev pub shown : State → Resolved → Option Attributes
shown new resolved = elim resolved [ Names number object ↦ attributes_at new number | _ ↦ None ]

abbrev pub weak : Living → WeakAttributes
weak o = record { size = size_of o.content; modified = o.modified; changed = o.changed }

-- what a handle named, before the call and after it
abbrev pub wcc : State → Resolved → Wcc
wcc new resolved = record
    { before = elim resolved [ Names number object ↦ Some (weak object) | _ ↦ None ]; after = shown new resolved }

-- a handle is not looked at where the one before it names nothing
abbrev pub after_first : (first second : Resolved) → Resolved
after_first first second = elim first [ Names number object ↦ second | _ ↦ BadHandle ]

-- the handle of an object
abbrev pub handle_at : Ctx → ℕ → Living → List ℕ
handle_at ctx number o = handle_bytes
    (record { export = o.export; start = ctx.start; fileid = number; generation = o.generation })

-- the object with other content from now on (2.5: mtime, ctime)
abbrev pub with_content : Living → Time → Content → Living
with_content o now content = record o
    { content = content; modified = touch o.changed now; changed = touch o.changed now }

-- the object with another time of change alone (2.5: ctime)
abbrev pub touched : Living → Time → Living
touched o now = record o { changed = touch o.changed now }

-- the state with this object at a number
abbrev pub with_object : State → ℕ → Living → State
with_object m number o = record m { objects = insert m.objects number o }

-- the same where the object may stay as it is
abbrev pub replaced : State → ℕ → Option Living → State
replaced m number object = elim object [ None ↦ m | Some o ↦ with_object m number o ]
