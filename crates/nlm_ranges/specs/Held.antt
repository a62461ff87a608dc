-- The locks that are held of a file, and who holds what stands in a call's way (RFC 1813, appendix II, 6.1.4).
use Rattle.std.specs.Prelude.{◌≡◌, ℕ, ◌+◌, ◌-◌, ◌<◌, ◌≤◌, ◌^◌, Bool, true, false}
use Rattle.std.specs.Prelude.{Contains, List, ◌++◌, None, Some}
use Rattle.std.specs.List.{AllByRecursion, IsDistinct}
use Rattle.nfs_machine.specs.Locks.{AreListed, Conflicts, HasModes, Mode, is_in, is_within, mode_at, modes_with}
use Rattle.nfs_machine.specs.Locks.{same_sharer}
use Rattle.nfs_machine.specs.LocksFormed.{NoLocksConflict, NoSharesConflict}
use Rattle.nfs_machine.specs.State.{Lock, Range, Share}

-- what stands in the way of a range in this mode: a lock of another owner, who has each of its offsets in its mode; one
-- of them is an offset of the range, where the two modes conflict
pub record IsInTheWay (locks : List Lock) (r : Range) (mode : Mode) (held : Lock) : Type 0 where
  pub conflict : Conflicts locks r mode
  pub owner_is : held.owner ≡ conflict.other
  pub is_shown : is_within held.first held.last conflict.offset ≡ true
  pub has : (offset : ℕ) → is_within held.first held.last offset ≡ true →
      mode_at locks held.owner offset ≡ Some held.exclusive

-- all these are exclusive, or none is
abbrev pub AreAll : Bool → List Lock → Type 0
AreAll exclusive locks = AllByRecursion (λ (l : Lock). l.exclusive ≡ exclusive) locks

-- exclusive locks and shared ones, as they may be held of a file
pub record AreHeld (exclusive shared : List Lock) : Type 0 where
  pub listed : AreListed (exclusive ++ shared)
  pub apart : NoLocksConflict (exclusive ++ shared)
  pub exclusives : AreAll true exclusive
  pub shares : AreAll false shared

-- each offset of a lock is one from the first to the last
pub record IsBetween (first last : ℕ) (l : Lock) : Type 0 where
  pub low : first ≤ l.first
  pub high : l.last ≤ last

-- the shares of a file, as they may be held: one of each sharer, and no two that conflict
pub record AreShares (shares : List Share) : Type 0 where
  pub once : IsDistinct same_sharer shares
  pub apart : NoSharesConflict shares

-- locks of which a range is given back: its owner has no offset of it any more, and all else is as it was
pub record IsGivenBack (old : List Lock) (r : Range) (new : List Lock) : Type 0 where
  pub modes : AreListed old → HasModes new (modes_with old r None)
  pub kept : (exclusive : Bool) → AreAll exclusive old → AreAll exclusive new

-- a lock that is listed, of the range's owner, has the offset before the range
pub record Precedes (locks : List Lock) (r : Range) (lock : Lock) : Type 0 where
  pub listed : Contains locks lock
  pub has : is_in lock.range r.owner (r.first - 1) ≡ true
  pub more : lock.first < r.first

-- a lock that is listed, of the range's owner, has the offset behind the range
pub record GoesOn (locks : List Lock) (r : Range) (lock : Lock) : Type 0 where
  pub listed : Contains locks lock
  pub has : is_in lock.range r.owner (r.last + 1) ≡ true
  pub more : r.last < lock.last

-- the lock of a range's owner has this offset
pub record IsHad (list : List Lock) (r : Range) (offset : ℕ) : Type 0 where
  pub lock : Lock
  pub listed : Contains list lock
  pub has : is_in lock.range r.owner offset ≡ true

-- the range's owner has what lies between this offset and the range
pub record BeginsWith (list : List Lock) (r : Range) (first : ℕ) : Type 0 where
  pub low : first ≤ r.first
  pub has : (offset : ℕ) → first ≤ offset → offset < r.first → IsHad list r offset

-- the range's owner has what lies between the range and this offset
pub record EndsWith (list : List Lock) (r : Range) (last : ℕ) : Type 0 where
  pub high : r.last ≤ last
  pub fits : last < 2 ^ 64
  pub has : (offset : ℕ) → r.last < offset → offset ≤ last → IsHad list r offset

-- a range with more of the same owner, which has that in this mode
pub record IsWidened (locks : List Lock) (r : Range) (mode : Mode) (wide : Range) : Type 0 where
  pub owner_is : wide.owner ≡ r.owner
  pub low : wide.first ≤ r.first
  pub high : r.last ≤ wide.last
  pub fits : wide.last < 2 ^ 64
  pub has : (offset : ℕ) → is_within wide.first wide.last offset ≡ true →
      is_within r.first r.last offset ≡ false → mode_at locks r.owner offset ≡ mode

-- the range's owner has no offset of it exclusively
abbrev pub HasNoneAlone : List Lock → Range → Type 0
HasNoneAlone locks r = (offset : ℕ) → is_within r.first r.last offset ≡ true →
    mode_at locks r.owner offset ≡ Some true → ⊥
