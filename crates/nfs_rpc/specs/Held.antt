-- What a `Records` keeps of the stream, and how bytes lead from one place in a fragment to the next.
use Rattle.std.specs.Prelude.{◌≡◌, ℕ, ◌+◌, ◌^◌, ◌<◌, ◌≤◌, List, [], ◌++◌, length}
use Rattle.std.specs.Prelude.{Option, Some, None}
use Rattle.nfs_rpc.specs.Records.{RecordsValue, IsMarked, IsStream, LeadTo}
use Rattle.nfs_rpc.specs.declared.marking.Records.TheInside.{Inside}
use Rattle.nfs_rpc.specs.declared.marking.FragmentState.{FragmentState}
use Rattle.nfs_rpc.specs.declared.marking.FragmentState.TheVariants.{Header, Body, Refused}
use Rattle.nfs_rpc.specs.declared.marking.TheConstants.{RECORD_LIMIT}

abbrev pub value_of : Inside → RecordsValue
value_of r = record { queued = r.queued.items; content = r.content.items; place = r.place }

-- a place in a fragment of a record of which so many bytes have come
abbrev pub IsPlace : FragmentState → ℕ → Type 0
IsPlace (Header count number) size = (count < 4) × (number < 256 ^ count) × (size ≤ RECORD_LIMIT)
IsPlace (Body last missing) size = (0 < missing) × (size + missing ≤ RECORD_LIMIT)
IsPlace Refused size = Unit {0}

abbrev pub IsSound : Inside → Type 0
IsSound r = IsPlace r.place (length r.content.items)

-- the bytes lead to this place, or they are a whole record
abbrev pub LeadToNext : List ℕ → List ℕ → Option FragmentState → Type 0
LeadToNext bytes content (Some place) = LeadTo bytes content place
LeadToNext bytes content None = IsMarked content bytes

-- where the record goes on, its place is one; a whole record is within the limit
abbrev pub IsNext : Option FragmentState → ℕ → Type 0
IsNext (Some place) size = IsPlace place size
IsNext None size = size ≤ RECORD_LIMIT

-- of the piece this is left, and what was taken leads on from the place, whatever came before
pub record LeadsOn (piece left content content' : List ℕ) (place : FragmentState) (next : Option FragmentState) : Type
    0 where
  pub taken : List ℕ
  pub more : List ℕ
  pub cut : piece ≡ taken ++ left
  pub grown : content' ≡ content ++ more
  pub leads : (bytes : List ℕ) → LeadTo bytes content place → LeadToNext (bytes ++ taken) content' next

-- what taking a piece in does: all of it is taken and the record goes on, or the record is whole and this is left
abbrev pub Advances : List ℕ → List ℕ → List ℕ → FragmentState → FragmentState → Option (List ℕ) → Type 0
Advances piece content content' place place' None = LeadsOn piece [] content content' place (Some place')
Advances piece content content' place place' (Some left) =
    LeadsOn piece left content content' place None × (place' ≡ Header 0 0) × (length left < length piece)

-- taking a piece in adds these records, whatever came before
abbrev pub Adds : List ℕ → List ℕ → List ℕ → FragmentState → FragmentState → List (List ℕ) → Type 0
Adds piece content content' place place' records =
    (bytes : List ℕ) → LeadTo bytes content place →
    (rest : List ℕ) × IsStream (bytes ++ piece) records rest × LeadTo rest content' place'
