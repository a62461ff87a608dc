-- A name that is taken away or moves, with all that its checks found: the steps speak of these one by one.
use Rattle.std.proofs.Common.{◌≡◌, ◌==◌, ℕ, ◌+◌, ◌^◌, Bool, true, false, not, ◌||◌, cond}
use Rattle.std.proofs.Common.{List, Option, Some, None, Result, Ok, nat_lt}
use Rattle.std.specs.Option.{option_map_or}
use Rattle.std.specs.Prelude.{if◌then◌else◌, is_some}
use Rattle.nfs_wire.specs.declared.attributes.Time.{Time}
use Rattle.nfs_wire.specs.declared.calls.RenameArguments.{RenameArguments}
use Rattle.nfs_wire.specs.declared.status.NfsStatus.{NfsStatus}
use Rattle.nfs_wire.specs.declared.status.NfsStatus.TheVariants as status
use Rattle.nfs_machine.specs.Attributes.{is_directory, links_of, names_of}
use Rattle.nfs_machine.specs.Checks.{DirectoryEntries, ◌>>=◌, holding, link_limit}
use Rattle.nfs_machine.specs.Making.{with_entry}
use Rattle.nfs_machine.specs.RemoveSteps.{losing_name, without}
use Rattle.nfs_machine.specs.RenameSteps.{IsWithin, is_compatible}
use Rattle.nfs_machine.specs.Resolve.{Named}
use Rattle.nfs_machine.specs.Shown.{touched, with_content, with_object}
use Rattle.nfs_machine.specs.State.{Directory, Entry, Living, State}

-- a name in a directory, and the object that it leads to
pub record NamedEntry : Type 0 where
  pub place : ℕ
  pub directory : Living
  pub entries : List Entry
  pub last_cookie : ℕ
  pub name : List ℕ
  pub number : ℕ
  pub object : Living

abbrev pub named_as : Named → DirectoryEntries → List ℕ → Named → NamedEntry
named_as directory entries name o = record {
  place = directory.number;
  directory = directory.object;
  entries = entries.list;
  last_cookie = entries.last_cookie;
  name = name;
  number = o.number;
  object = o.object;
}

-- the state with a name taken away
abbrev pub with_name_taken : State → Time → NamedEntry → State
with_name_taken m now n =
    losing_name (with_object m n.place
    (with_content n.directory now (Directory (without n.entries n.name) n.last_cookie))) (names_of m n.number) now
    n.number n.object

-- a name that moves, the directory that it comes to with the name that it has there, and what has that name now
pub record Move : Type 0 where
  pub from : NamedEntry
  pub target : ℕ
  pub directory : Living
  pub entries : List Entry
  pub last_cookie : ℕ
  pub name : List ℕ
  pub replaced : Option Named

-- the target's entries that stay
abbrev pub entries_kept : Move → List Entry
entries_kept move = cond (move.target == move.from.place) (without (without move.entries move.name) move.from.name)
    (without move.entries move.name)

-- both directories after it
abbrev pub with_names_moved : State → Time → Move → State
with_names_moved m now move =
    with_object (with_object m move.from.place
    (with_content move.from.directory now (Directory (without move.from.entries move.from.name)
    move.from.last_cookie)))
    move.target (with_content move.directory now (with_entry (entries_kept move) move.last_cookie move.name
    move.from.number))

-- what had the name loses it
abbrev pub without_replaced : (old m : State) → Time → Option Named → State
without_replaced old m now replaced = elim replaced [
  | None ↦ m
  | Some o ↦ losing_name m (names_of old o.number) now
      o.number o.object
]

abbrev pub with_moved : State → Time → Move → State
with_moved old now move =
    without_replaced old (with_object (with_names_moved old now move) move.from.number (touched move.from.object now))
    now move.replaced

-- what a RENAME comes to, behind the checks that find its names
abbrev pub move_end : State → Time → RenameArguments → (ℕ → ℕ → Bool) → (from to : Named) →
    (from_entries to_entries : DirectoryEntries) → (moved : Named) → Option Named → Result
    (Unit {0} × State) NfsStatus
move_end old now a is_within from to from_entries to_entries moved replaced =
    let move : Move = record {
      from = named_as from from_entries a.from.name moved;
      target = to.number;
      directory = to.object;
      entries = to_entries.list;
      last_cookie = to_entries.last_cookie;
      name = a.to.name;
      replaced = replaced;
    } in
    if option_map_or (λ o. o.number == moved.number) replaced false then Ok (tt, old) else do
      _ ← holding (option_map_or (λ o. is_compatible moved.object.content o.object.content) replaced true) status.Exists
      _ ← holding (not (is_within moved.number to.number)) status.Invalid
      _ ← holding (not (is_directory moved.object.content) || (to.number == from.number) || is_some replaced || nat_lt
          (links_of old to.number to.object.content) link_limit) status.TooManyLinks
      _ ← holding (nat_lt (to_entries.last_cookie + 1) (2 ^ 64)) status.NoSpace
      Ok (tt, with_moved old now move)

-- a directory that would come into itself, or below
abbrev pub GoesIntoItself : State → Move → Type 0
GoesIntoItself m move = (is_directory move.from.object.content ≡ true) × IsWithin m move.from.number move.target
