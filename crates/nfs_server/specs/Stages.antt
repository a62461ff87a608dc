-- Where in its records a stream stands, as the headers of their fragments tell (RFC 5531, section 11).
use Rattle.std.specs.Prelude.{ℕ, ◌≡◌, ◌<◌, length, ◌+◌, ◌-◌, ◌*◌, ◌%◌, ◌^◌, ◌||◌, Bool, true, false, List}
use Rattle.std.specs.Prelude.{[], ◌∷◌, ◌++◌}
use Rattle.std.specs.Prelude.{nat_le, nat_lt, if◌then◌else◌}
use Rattle.nfs_rpc.specs.Records.{IsMarked}
use Rattle.nfs_server.specs.declared.marks.Stage.{Stage}
use Rattle.nfs_server.specs.declared.marks.Stage.TheVariants.{Between, Header, Body}

-- in a fragment of which so many bytes are to come
abbrev pub in_body : (last : Bool) (missing : ℕ) → Stage
in_body last missing =
    if nat_lt 0 missing then Body last missing else (if last then Between else Header 0 0)

-- behind a header, which makes this number
abbrev pub behind_header : (number : ℕ) → Stage
behind_header number = in_body (nat_le (2 ^ 31) number) (number % 2 ^ 31)

-- behind one more byte of a header, of which so many came before and made this number
abbrev pub behind_byte : (count number byte : ℕ) → Stage
behind_byte count number byte =
    if nat_lt count 3 then Header (count + 1) ((number * 256 + byte) % 2 ^ 32)
    else behind_header ((number * 256 + byte) % 2 ^ 32)

-- behind one more byte
abbrev pub behind_next : Stage → (byte : ℕ) → Stage
behind_next Between byte = behind_byte 0 0 byte
behind_next (Header count number) byte = behind_byte count number byte
behind_next (Body last missing) byte = in_body last (missing - 1)

-- behind these bytes
abbrev pub behind : Stage → List ℕ → Stage
behind stage [] = stage
behind stage (byte ∷ bytes) = behind (behind_next stage byte) bytes

abbrev pub is_between : Stage → Bool
is_between Between = true
is_between _ = false

-- a record ended with one of these bytes
abbrev pub has_ended : Stage → List ℕ → Bool
has_ended stage [] = false
has_ended stage (byte ∷ bytes) = is_between (behind_next stage byte) || has_ended (behind_next stage byte) bytes

-- from the front of the piece something was taken, which led to this stage, and this is left
pub record StepsOn (stage : Stage) (piece : List ℕ) (next : Stage) (left : List ℕ) : Type 0 where
  pub leads : behind stage piece ≡ behind next left
  pub ended : has_ended stage piece ≡ (is_between next || has_ended next left)
  pub shorter : length left < length piece

-- whole records lead to where none has begun
abbrev pub RecordsEndBetween : Type 0
RecordsEndBetween = (content bytes rest : List ℕ) → IsMarked content bytes →
    behind Between (bytes ++ rest) ≡ behind Between rest
