-- What clauses see of views and of what a call comes to.
use Rattle.std.specs.Prelude.{Bool, true, false, List, [], ◌∷◌, ◌++◌, map, Option, Some, None, option_map}
use Rattle.std.specs.Prelude.{if◌then◌else◌, ◌==◌, ◌&&◌, option_copied}
use Rattle.std.specs.Borrow.{Bor}
use Rattle.std.specs.Arc.{arc_value}
use Rattle.std.specs.declared.sync.Arc.{Arc}
use Rattle.side_wire.specs.declared.message.Message.{Message}
use Rattle.nfs_wire.specs.declared.calls.RenameArguments.{RenameArguments}
use Rattle.nfs_machine.specs.declared.context.Ctx.{Ctx}
use Rattle.nfs_machine.specs.declared.calls.Call.{Call}
use Rattle.nfs_machine.specs.declared.calls.Reply.{Reply}
use Rattle.nfs_objects.specs.declared.address.Addr.{Addr}
use Rattle.nfs_objects.specs.declared.address.Addr.TheVariants.{Exports, Inode, Map, Block, Page, Part, Mounts, Usage}
use Rattle.nfs_objects.specs.declared.address.Addr.TheVariants.{Locks}
use Rattle.nfs_objects.specs.declared.change.Change.{Change}
use Rattle.nfs_objects.specs.declared.change.Write.{Write}
use Rattle.nfs_objects.specs.declared.modes.Mode.{Mode}
use Rattle.nfs_objects.specs.declared.modes.Modes.{Modes}
use Rattle.nfs_objects.specs.declared.object.Object.{Object}
use Rattle.nfs_objects.specs.declared.view.Entry.{Entry}
use Rattle.nfs_objects.specs.declared.view.Reserved.{Reserved}

-- an address that a call has read, how the call holds it, and what stands there
pub record Seen : Type 0 where
  pub address : Addr
  pub mode : Mode
  pub object : Option Object

-- what a call has read, and the numbers that it may give
pub record ViewValue : Type 0 where
  pub entries : List Seen
  pub reserved : List Reserved

-- how a call holds what it reads: the exports; inodes with the maps and blocks of files, the pages and parts of
-- directories and what groups of inodes use; the mounts; what files have of locks; and which names it moves, if any
pub record ModesValue : Type 0 where
  pub exports : Mode
  pub inodes : Mode
  pub mounts : Mode
  pub locks : Mode
  pub renames : Option RenameArguments

-- what a call stands on, how it holds what it reads, and what it would write and put
pub record DraftValue : Type 0 where
  pub ctx : Ctx
  pub view : ViewValue
  pub modes : ModesValue
  pub writes : List (Addr × Option Object)
  pub messages : List Message

-- what a call that is done writes, puts and answers
pub record ChangeValue : Type 0 where
  pub writes : List (Addr × Option Object)
  pub messages : List Message
  pub reply : Reply

-- the end of a call
pub record DoneValue : Type 0 where
  pub call : Call
  pub ctx : Ctx
  pub view : ViewValue
  pub change : ChangeValue

-- an address with its entry
abbrev pub seen_of : Addr × Entry → Seen
seen_of e = record { address = e.0; mode = e.1.mode; object = option_map arc_value e.1.object }

-- an address with what is to stand there
abbrev pub write_value : Write → Addr × Option Object
write_value write = (write.address, option_map arc_value write.object)

abbrev pub change_value : Change → ChangeValue
change_value change = record
    { writes = map write_value change.writes.items; messages = change.messages.items; reply = change.reply }

-- the end of this call, made of these parts
abbrev pub done_value : Call → Ctx → ViewValue → ChangeValue → DoneValue
done_value call ctx view change = record { call = call; ctx = ctx; view = view; change = change }

abbrev pub modes_value : Modes → ModesValue
modes_value modes = record {
  exports = modes.exports;
  inodes = modes.inodes;
  mounts = modes.mounts;
  locks = modes.locks;
  renames = option_copied modes.renames;
}

-- a draft with no write
abbrev pub new_draft : Ctx → ViewValue → ModesValue → DraftValue
new_draft ctx view modes = record { ctx = ctx; view = view; modes = modes; writes = []; messages = [] }

-- the object behind the loan, if there is one
abbrev pub pointed : {X Z : Type 0} → Bor (Option (Arc X Z)) → Option X
pointed r = option_map arc_value r.now

-- whether two addresses are one
abbrev pub is_addr : Addr → Addr → Bool
is_addr Exports Exports = true
is_addr (Inode n) (Inode m) = n == m
is_addr (Map n p) (Map m q) = (n == m) && (p == q)
is_addr (Block n i) (Block m j) = (n == m) && (i == j)
is_addr (Page n p) (Page m q) = (n == m) && (p == q)
is_addr (Part n b p) (Part m c q) = (n == m) && ((b == c) && (p == q))
is_addr Mounts Mounts = true
is_addr (Usage e g) (Usage f h) = (e == f) && (g == h)
is_addr (Locks b) (Locks c) = b == c
is_addr a b = false

-- what is known of an address, in whatever mode it is held
abbrev pub seen_at : List Seen → Addr → Option Seen
seen_at [] a = None
seen_at (e ∷ es) a = if is_addr e.address a then Some e else seen_at es a

-- what stands there, where it was read
abbrev pub shown_at : List Seen → Addr → Option (Option Object)
shown_at entries a = option_map (λ (e : Seen). e.object) (seen_at entries a)

-- how it is held
abbrev pub held_at : List Seen → Addr → Option Mode
held_at entries a = option_map (λ (e : Seen). e.mode) (seen_at entries a)

-- the same after writes, of which the last one counts
abbrev pub written_at : Option (Option Object) → List (Addr × Option Object) → Addr → Option (Option Object)
written_at known [] a = known
written_at known (w ∷ ws) a = written_at (if is_addr w.0 a then Some w.1 else known) ws a

-- what a draft knows of an address
abbrev pub known_at : DraftValue → Addr → Option (Option Object)
known_at d a = written_at (shown_at d.view.entries a) d.writes a

-- the draft with one more write
abbrev pub with_written : DraftValue → Addr → Option Object → DraftValue
with_written d a o = record d { writes = d.writes ++ (a, o) ∷ [] }
