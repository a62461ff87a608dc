-- What becomes of listed locks where an owner gives a range back, and where one more is listed.
use Rattle.std.specs.Prelude.{◌≡◌, ℕ, ◌+◌, ◌-◌, Bool, ◌&&◌, List, [], ◌∷◌, ◌++◌, nat_le}
use Rattle.std.specs.Prelude.{nat_lt, if◌then◌else◌}
use Rattle.std.specs.List.{flat_map}
use Rattle.nfs_machine.specs.Bytes.{same_bytes}
use Rattle.nfs_machine.specs.Locks.{same_owner}
use Rattle.nfs_machine.specs.State.{Lock, Range}

-- the lock is of the range's owner, and has an offset of it
abbrev pub is_touched : Range → Lock → Bool
is_touched r l = same_owner r.owner l.owner && (nat_le l.first r.last && nat_le r.first l.last)

-- the lock from and to other offsets
abbrev pub between : Lock → (first last : ℕ) → Lock
between l first last = record {
  range = record { owner = l.owner; first = first; last = last };
  exclusive = l.exclusive;
}

-- what a lock has before a range
abbrev pub before : Range → Lock → List Lock
before r l = if nat_lt l.first r.first then between l l.first (r.first - 1) ∷ [] else []

-- and what it has behind it
abbrev pub behind : Range → Lock → List Lock
behind r l = if nat_lt r.last l.last then between l (r.last + 1) l.last ∷ [] else []

-- what a lock has where the range's owner gives the range back
abbrev pub cut : Range → Lock → List Lock
cut r l = if is_touched r l then before r l ++ behind r l else l ∷ []

-- the lock is of this caller
abbrev pub is_of_caller : (caller_name : List ℕ) → Lock → Bool
is_of_caller name l = same_bytes l.owner.caller_name name

-- pieces, one behind the other
abbrev pub joined : {X : Type 0} → List (List X) → List X
joined pieces = flat_map (λ piece. piece) pieces

-- one more lock is listed, somewhere
pub record Inserts (old : List Lock) (lock : Lock) (new : List Lock) : Type 0 where
  pub earlier : List Lock
  pub later : List Lock
  pub old_is : old ≡ earlier ++ later
  pub new_is : new ≡ earlier ++ lock ∷ later
