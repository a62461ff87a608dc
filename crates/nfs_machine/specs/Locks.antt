-- Locks on ranges of files and share reservations: who has what, and what conflicts (RFC 1813, appendix II, 6.1.4).
use Rattle.std.specs.Prelude.{◌≡◌, ℕ, ◌+◌, ◌-◌, ◌^◌, ◌<◌, ◌≤◌, Bool, true, false, not}
use Rattle.std.specs.Prelude.{◌&&◌}
use Rattle.std.specs.Prelude.{◌||◌, List, Option, Some, None, option_map, nat_le, if◌then◌else◌, count_by}
use Rattle.std.specs.Prelude.{find}
use Rattle.std.specs.Prelude.{◌==◌}
use Rattle.std.specs.List.{AllByRecursion}
use Rattle.std.specs.Ordering.{int_eq}
use Rattle.side_wire.specs.declared.message.NlmLock.{NlmLock}
use Rattle.side_wire.specs.declared.nlm.ShareAccess.{ShareAccess}
use Rattle.side_wire.specs.declared.nlm.ShareAccess.TheVariants as access
use Rattle.side_wire.specs.declared.nlm.ShareMode.{ShareMode}
use Rattle.side_wire.specs.declared.nlm.ShareMode.TheVariants as mode
use Rattle.nfs_machine.specs.Bytes.{same_bytes}
use Rattle.nfs_machine.specs.State.{Lock, Owner, Share, Range}

-- how an owner has an offset of a file: not at all, shared (Some false) or exclusively (Some true)
abbrev pub Mode : Type 0
Mode = Option Bool

-- one owner: the same caller, the same owner (oh) within it, and the same process (svid)
abbrev pub same_owner : Owner → Owner → Bool
same_owner a b = same_bytes a.caller_name b.caller_name && same_bytes a.owner b.owner && int_eq a.process b.process

abbrev pub is_within : (first last offset : ℕ) → Bool
is_within first last offset = nat_le first offset && nat_le offset last

-- a range has an offset, and none that needs more than 64 bits (6.3.1)
pub record IsRange (r : Range) : Type 0 where
  pub rises : r.first ≤ r.last
  pub fits : r.last < 2 ^ 64

-- the range is this owner's and contains this offset
abbrev pub is_in : Range → Owner → ℕ → Bool
is_in r owner offset = same_owner r.owner owner && is_within r.first r.last offset

-- the mode of an owner at an offset, among the locks of a file: that of the listed lock that contains it
abbrev pub mode_at : List Lock → Owner → ℕ → Mode
mode_at locks owner offset = option_map (λ (l : Lock). l.exclusive)
    (find (λ (l : Lock). is_in l.range owner offset) locks)

-- no offset of an owner stands twice among the locks of a file
abbrev pub OffsetsOnce : List Lock → Type 0
OffsetsOnce locks = (owner : Owner) (offset : ℕ) → count_by (λ (l : Lock). is_in l.range owner offset) locks ≤ 1

-- the locks of a file as they may be listed: each is of a range, and no offset of an owner stands twice
pub record AreListed (locks : List Lock) : Type 0 where
  pub ranges : AllByRecursion (λ (l : Lock). IsRange l.range) locks
  pub once : OffsetsOnce locks

-- the locks of a file have these modes; in which ranges and in which order they are listed is free
pub record HasModes (locks : List Lock) (modes : Owner → ℕ → Mode) : Type 0 where
  pub modes_are : (owner : Owner) (offset : ℕ) → mode_at locks owner offset ≡ modes owner offset
  pub listed : AreListed locks

-- offsets have 64 bits (6.3.1)
abbrev pub fits_offsets : NlmLock → Bool
fits_offsets l = nat_le (l.offset + l.length) (2 ^ 64)

-- the range that a call names; a length of 0 runs to the last offset of all (6.1.4)
abbrev pub range_of : NlmLock → Range
range_of l = let last = if l.length == 0 then 2 ^ 64 - 1 else l.offset + l.length - 1 in
    record {
      owner = record { caller_name = l.caller_name; owner = l.owner; process = l.process };
      first = l.offset;
      last = last;
    }

-- a range lies within another of the same owner
abbrev pub lies_within : (whole r : Range) → Bool
lies_within whole r = same_owner whole.owner r.owner && nat_le whole.first r.first && nat_le r.last whole.last

-- the modes where the range's owner gets this mode on it, and all else is as before
abbrev pub modes_with : List Lock → Range → Mode → Owner → ℕ → Mode
modes_with locks r mode owner offset = if is_in r owner offset then mode else mode_at locks owner offset

-- the modes where all owners of a caller lose what they have
abbrev pub modes_without : List Lock → (caller_name : List ℕ) → Owner → ℕ → Mode
modes_without locks name owner offset =
    if same_bytes owner.caller_name name then None else mode_at locks owner offset

-- two owners can't have one offset so: both have it, and one of them exclusively
abbrev pub modes_conflict : Mode → Mode → Bool
modes_conflict (Some a) (Some b) = a || b
modes_conflict a b = false

-- another owner has an offset of the range in a mode that conflicts with this one
pub record Conflicts (locks : List Lock) (r : Range) (mode : Mode) : Type 0 where
  pub other : Owner
  pub offset : ℕ
  pub is_other : same_owner r.owner other ≡ false
  pub is_inside : is_within r.first r.last offset ≡ true
  pub conflict : modes_conflict mode (mode_at locks other offset) ≡ true

-- one sharer: the same caller, and the same owner (oh) within it
abbrev pub same_sharer : Share → Share → Bool
same_sharer a b = same_bytes a.caller_name b.caller_name && same_bytes a.owner b.owner

-- the access that one asks is denied by the mode of the other
abbrev pub denies : ShareMode → ShareAccess → Bool
denies mode.DenyNone asked = false
denies denied access.Neither = false
denies mode.DenyRead access.Write = false
denies mode.DenyWrite access.Read = false
denies denied asked = true

-- two shares of a file that can't be had together
abbrev pub shares_conflict : Share → Share → Bool
shares_conflict a b = not (same_sharer a b) && (denies a.mode b.access || denies b.mode a.access)
