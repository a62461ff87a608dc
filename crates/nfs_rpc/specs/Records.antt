-- Record marking (RFC 5531, section 11): a stream carries records, each in one or more fragments.
use Rattle.std.specs.Prelude.{◌≡◌, ℕ, ◌+◌, ◌%◌, ◌^◌, ◌<◌, ◌≤◌, Bool, true, false, List}
use Rattle.std.specs.Prelude.{[], ◌∷◌, ◌++◌, length}
use Rattle.std.specs.Int.{w32, to_be_bytes, bytes_high_first}
use Rattle.std.specs.List.{concat, flat_map}
use Rattle.nfs_rpc.specs.declared.marking.FragmentState.{FragmentState}
use Rattle.nfs_rpc.specs.declared.marking.FragmentState.TheVariants.{Header, Body, Refused}
use Rattle.nfs_rpc.specs.declared.marking.TheConstants.{RECORD_LIMIT}

-- the bit that a fragment's header adds to the length of its body
abbrev pub mark : Bool → ℕ
mark true = 2 ^ 31
mark false = 0

-- a fragment of a record, its last one or an earlier one: a header of four bytes, then the body
abbrev pub fragment : Bool → List ℕ → List ℕ
fragment last body = to_be_bytes w32 (mark last + length body) ++ body

-- the bytes are one record: fragments whose bodies join to the content, the last one marked, and no more than the limit
pub record IsMarked (content bytes : List ℕ) : Type 0 where
  pub earlier : List (List ℕ)
  pub last : List ℕ
  pub joined : content ≡ concat earlier ++ last
  pub marked : bytes ≡ flat_map (fragment false) earlier ++ fragment true last
  pub within : length content ≤ RECORD_LIMIT

-- no record begins these bytes
abbrev pub BeginsNone : List ℕ → Type 0
BeginsNone bytes = (content front back : List ℕ) → bytes ≡ front ++ back → IsMarked content front → ⊥

-- the stream is these records, one after another, and a rest that no record begins
abbrev pub IsStream : List ℕ → List (List ℕ) → List ℕ → Type 0
IsStream stream [] rest = (rest ≡ stream) × BeginsNone rest
IsStream stream (content ∷ records) rest =
    (front : List ℕ) × (back : List ℕ) × (stream ≡ front ++ back) × IsMarked content front ×
    IsStream back records rest

-- after earlier fragments of a record there stands a header that brings it above the limit
pub record BeginsTooLarge (bytes : List ℕ) : Type 0 where
  pub earlier : List (List ℕ)
  pub number : ℕ
  pub back : List ℕ
  pub is_word : number < 2 ^ 32
  pub whole : bytes ≡ flat_map (fragment false) earlier ++ (to_be_bytes w32 number ++ back)
  pub within : length (concat earlier) ≤ RECORD_LIMIT
  pub above : RECORD_LIMIT < length (concat earlier) + number % 2 ^ 31

-- after whole records there stands a record with such a header
abbrev pub IsTooLarge : List ℕ → Type 0
IsTooLarge stream =
    (records : List (List ℕ)) × (rest : List ℕ) × IsStream stream records rest × BeginsTooLarge rest

-- what a clause sees of a `Records`: the whole records that it has not given yet, and of the record after them
-- the bodies that have come, joined, and where in a fragment it stands
pub record RecordsValue : Type 0 where
  pub queued : List (List ℕ)
  pub content : List ℕ
  pub place : FragmentState

-- the bytes are earlier fragments, and so many bytes of the next one's header
pub record EndsInHeader (count number : ℕ) (content bytes : List ℕ) : Type 0 where
  pub earlier : List (List ℕ)
  pub joined : content ≡ concat earlier
  pub whole : bytes ≡ flat_map (fragment false) earlier ++ bytes_high_first count number

-- the bytes are earlier fragments, and one of whose body so many bytes are missing
pub record EndsInBody (last : Bool) (missing : ℕ) (content bytes : List ℕ) : Type 0 where
  pub earlier : List (List ℕ)
  pub body : List ℕ
  pub joined : content ≡ concat earlier ++ body
  pub whole : bytes
      ≡ flat_map (fragment false) earlier ++ (to_be_bytes w32 (mark last + (length body + missing)) ++ body)

-- the bytes, of which nothing but the joined bodies is kept, lead to this place
abbrev pub LeadTo : List ℕ → List ℕ → FragmentState → Type 0
LeadTo bytes content (Header count number) = EndsInHeader count number content bytes
LeadTo bytes content (Body last missing) = EndsInBody last missing content bytes
LeadTo bytes content Refused = BeginsTooLarge bytes

-- the stream so far is the records that were given, those that are queued, and a rest that the value holds
pub record Holds (value : RecordsValue) (stream : List ℕ) (given : List (List ℕ)) : Type 0 where
  pub rest : List ℕ
  pub split : IsStream stream (given ++ value.queued) rest
  pub held : LeadTo rest value.content value.place

-- a stream has one splitting into records and a rest
abbrev pub StreamsSplitOnce : Type 0
StreamsSplitOnce = (stream : List ℕ) (records records' : List (List ℕ)) (rest rest' : List ℕ)
    → IsStream stream records rest → IsStream stream records' rest' → (records ≡ records') × (rest ≡ rest')

-- a stream that is too large stays so, however it goes on
abbrev pub TooLargeStays : Type 0
TooLargeStays = (stream more : List ℕ) → IsTooLarge stream → IsTooLarge (stream ++ more)
