-- What RENAME comes to (RFC 1813, 3.3.14).
use Rattle.std.specs.Prelude.{◌≡◌, ℕ, ◌+◌, ◌≤◌, ◌^◌, Bool, true, false, not, ◌&&◌}
use Rattle.std.specs.Prelude.{◌||◌, List, length, Some, None, is_some, Result, Ok, ok_or, nat_lt}
use Rattle.std.specs.Prelude.{if◌then◌else◌, ◌==◌, ◌↔◌}
use Rattle.std.specs.FinMap.{get}
use Rattle.std.specs.Option.{option_map_or}
use Rattle.nfs_wire.specs.declared.calls.RenameArguments.{RenameArguments}
use Rattle.nfs_wire.specs.declared.replies.NfsReply.{NfsReply}
use Rattle.nfs_wire.specs.declared.replies.NfsReply.TheVariants as replies
use Rattle.nfs_wire.specs.declared.status.NfsStatus.{NfsStatus}
use Rattle.nfs_wire.specs.declared.status.NfsStatus.TheVariants as status
use Rattle.side_wire.specs.declared.message.Message.{Message}
use Rattle.nfs_machine.specs.Answers.{Ends}
use Rattle.nfs_machine.specs.Attributes.{entries_of, is_directory, is_living_directory, links_of, names_in, names_of}
use Rattle.nfs_machine.specs.Checks.{◌>>=◌, holding, object_of, entries_in, entry_of, plain_name_checked}
use Rattle.nfs_machine.specs.Checks.{changeable, permitted, link_limit}
use Rattle.nfs_machine.specs.Making.{with_entry}
use Rattle.nfs_machine.specs.Permission.{ToChange}
use Rattle.nfs_machine.specs.RemoveSteps.{losing_name, object_under, without}
use Rattle.nfs_machine.specs.Resolve.{resolve}
use Rattle.nfs_machine.specs.Shown.{after_first, touched, wcc, with_content, with_object}
use Rattle.nfs_machine.specs.State.{Content, Directory, Living, State}
use Rattle.nfs_machine.specs.Times.{time_of}
use Rattle.nfs_machine.specs.declared.context.Ctx.{Ctx}

-- the lower number is the upper one, or names of directories lead down to it
pub data IsWithin (m : State) : ℕ → ℕ → Type 0 where
  itself : (number : ℕ) → IsWithin m number number
  below : (upper middle lower : ℕ) (directory : Living) → IsWithin m upper middle →
      get m.objects middle ≡ Some directory → 1 ≤ names_in lower directory → IsWithin m upper lower

-- what may be replaced by what moves: both are directories, and the one that goes has no entry, or neither is one
abbrev pub is_compatible : (moved replaced : Content) → Bool
is_compatible moved replaced = (is_directory moved && is_directory replaced && (length (entries_of replaced) == 0)) ||
    (not (is_directory moved) && not (is_directory replaced))

-- a test that tells of each living directory whether it is the upper one, or below it
abbrev pub TellsWithin : State → (is_within : (upper lower : ℕ) → Bool) → Type 0
TellsWithin m is_within = (upper lower : ℕ) → is_living_directory (get m.objects lower) ≡ true →
    (is_within upper lower ≡ true) ↔ IsWithin m upper lower

-- what RENAME comes to, with such a test
abbrev pub rename_end : State → Ctx → RenameArguments → (is_within : (upper lower : ℕ) → Bool) →
    Result (Unit {0} × State) NfsStatus
rename_end old ctx a is_within = do
  from ← object_of (resolve old ctx a.from.directory)
  to ← object_of (resolve old ctx a.to.directory)
  _ ← holding (from.object.export == to.object.export) status.CrossDevice
  from_entries ← entries_in from.object.content
  to_entries ← entries_in to.object.content
  _ ← plain_name_checked status.Invalid status.Invalid a.from.name
  _ ← plain_name_checked status.Invalid status.Invalid a.to.name
  _ ← changeable old.exports from.object
  _ ← permitted ctx from.object ToChange
  _ ← permitted ctx to.object ToChange
  moved ← ok_or (object_under old (entry_of from_entries.list a.from.name)) status.NoEntry
  -- the new name may lead to another object, to the one that moves, or to nothing
  let replaced = object_under old (entry_of to_entries.list a.to.name)
  -- where both names lead to one object, nothing moves
  if option_map_or (λ o. o.number == moved.number) replaced false then Ok (tt, old) else do
    _ ← holding (option_map_or (λ o. is_compatible moved.object.content o.object.content) replaced true)
        status.Exists
    -- a directory never goes into itself, or below
    _ ← holding (not (is_within moved.number to.number)) status.Invalid
    -- a directory brings a link to a parent that is new to it, but where it takes the place of another directory
    _ ← holding (not (is_directory moved.object.content) || (to.number == from.number) || is_some replaced || nat_lt
        (links_of old to.number to.object.content) link_limit) status.TooManyLinks
    -- the target has a cookie left for the name
    _ ← holding (nat_lt (to_entries.last_cookie + 1) (2 ^ 64)) status.NoSpace
    -- the target's entries that stay: the name was another's, or, in one directory, the old name leaves it
    let left = if to.number == from.number then without
        (without to_entries.list a.to.name) a.from.name else without to_entries.list a.to.name
    -- both directories after it; one directory changes once
    let now = time_of ctx.moment
    let source = with_object old from.number
        (with_content from.object now (Directory (without from_entries.list a.from.name) from_entries.last_cookie))
    let target = with_object source to.number
        (with_content to.object now (with_entry left to_entries.last_cookie a.to.name moved.number))
    let new = with_object target moved.number (touched moved.object now)
    -- what had the name loses it
    Ok (tt, elim replaced [ None ↦ new | Some o ↦ losing_name new (names_of old o.number) now o.number o.object ])

-- the step of RENAME: both directories are shown before and after
pub record RenameStep (old : State) (ctx : Ctx) (a : RenameArguments) (reply : NfsReply) (messages : List Message)
    (new : State) : Type 0 where
  pub is_within : (upper lower : ℕ) → Bool
  pub tells : TellsWithin old is_within
  pub answers : Ends old
      (λ after result. replies.Rename
      (record {
        from = wcc after (resolve old ctx a.from.directory);
        to = wcc after (after_first (resolve old ctx a.from.directory) (resolve old ctx a.to.directory));
        result = result;
      }))
      (rename_end old ctx a is_within) reply messages new
