-- Reading from left to right, as a function on lists: a value and the bytes behind it, or the first fault. It is what
-- code is compared with; what is right is `Spells`.
use Rattle.std.specs.Prelude.{◌≡◌, ◌⊎◌, ◌≤◌, ℕ, zero, suc, ◌+◌, ◌-◌, Bool, true, false}
use Rattle.std.specs.Prelude.{◌||◌, IsOkAnd}
use Rattle.std.specs.Prelude.{List, [], ◌∷◌, length, take, drop, Option, Some, None, Result, Ok, Err, nat_lt}
use Rattle.std.specs.Prelude.{◌==◌, if◌then◌else◌, ℤ}
use Rattle.std.specs.List.{list_any}
use Rattle.std.specs.Int.{Width, w32, w64, byte_len, from_be_bytes, cast_signed}
use Rattle.nfs_xdr.specs.declared.XdrError.{XdrError}
use Rattle.nfs_xdr.specs.declared.XdrError.TheVariants.{Short, TooLong, BadValue, Memory}
use Rattle.nfs_xdr.specs.Types.{Xdr, Void, Word, Int, Hyper, Flag, Enum, Fixed, Opaque, Pair, Array, Optional}
use Rattle.nfs_xdr.specs.Types.{Entries, Union, Value, padding}

-- what the next step makes of a value; a fault stays
infixl 10 ◌>>=◌
abbrev pub ◌>>=◌ : {A B : Type 0} → Result A XdrError → (A → Result B XdrError) → Result B XdrError
(Ok x) >>= f = f x
(Err e) >>= f = Err e

-- an unsigned number of this width (RFC 4506, 4.2 and 4.5)
abbrev pub number_at : Width → List ℕ → Result (ℕ × List ℕ) XdrError
number_at w bytes =
    if nat_lt (length bytes) (byte_len w) then Err Short
    else Ok (from_be_bytes w (take (byte_len w) bytes), drop (byte_len w) bytes)

-- the word as an int (4.1)
abbrev pub signed_of : ℕ × List ℕ → Result (ℤ × List ℕ) XdrError
signed_of n = Ok (cast_signed w32 n.0, n.1)

-- the word as a bool (4.4)
abbrev pub flag_of : ℕ × List ℕ → Result (Bool × List ℕ) XdrError
flag_of n = if n.0 == 0 then Ok (false, n.1) else (if n.0 == 1 then Ok (true, n.1) else Err BadValue)

-- the word as one of the numbers of an enum (4.3)
abbrev pub known_of : (ℕ → Bool) → ℕ × List ℕ → Result (ℕ × List ℕ) XdrError
known_of known n = if known n.0 then Ok n else Err BadValue

-- so many bytes, with their padding (4.9)
abbrev pub bytes_at : ℕ → List ℕ → Result (List ℕ × List ℕ) XdrError
bytes_at size bytes =
    if nat_lt (length bytes) (size + padding size) then Err Short
    else Ok (take size bytes, drop (size + padding size) bytes)

-- as many bytes as the word says, if that is within the bound (4.10)
abbrev pub opaque_of : ℕ → ℕ × List ℕ → Result (List ℕ × List ℕ) XdrError
opaque_of max n = if nat_lt max n.0 then Err TooLong else bytes_at n.0 n.1

-- optional data that is there (4.19)
abbrev pub some_of : {A : Type 0} → A × List ℕ → Result (Option A × List ℕ) XdrError
some_of x = Ok (Some x.0, x.1)

-- so many elements, one after another (4.13)
unfoldable pub read_all : {A : Type 0} → (List ℕ → Result (A × List ℕ) XdrError) → ℕ → List ℕ →
    Result (List A × List ℕ) XdrError
read_all element zero bytes = Ok ([], bytes)
read_all element (suc n) bytes = do
  x ← element bytes
  xs ← read_all element n x.1
  Ok (x.0 ∷ xs.0, xs.1)

-- entries up to the FALSE, of which there are fewer than this (4.19)
unfoldable pub read_entries : {A : Type 0} → (List ℕ → Result (A × List ℕ) XdrError) → ℕ → List ℕ →
    Result (List A × List ℕ) XdrError
read_entries entry zero bytes = Err Short
read_entries entry (suc n) bytes = do
  more ← number_at w32 bytes >>= flag_of
  if more.0 then (do
    x ← entry more.1
    xs ← read_entries entry n x.1
    Ok (x.0 ∷ xs.0, xs.1)) else Ok ([], more.1)

-- the arm that the discriminant names, if it is known (4.15)
unfoldable pub arm_of : (known : ℕ → Bool) (arm : ℕ → Xdr) →
    ((tag : ℕ) → List ℕ → Result (Value (arm tag) × List ℕ) XdrError) →
    ℕ × List ℕ → Result (((tag : ℕ) × Value (arm tag)) × List ℕ) XdrError
arm_of known arm inner n = if known n.0 then (inner n.0 n.1 >>= (λ v. Ok ((n.0, v.0), v.1))) else Err BadValue

-- a value of the type, and the bytes behind it
unfoldable pub read : (t : Xdr) → List ℕ → Result (Value t × List ℕ) XdrError
read Void bytes = Ok (tt, bytes)
read Word bytes = number_at w32 bytes
read Int bytes = number_at w32 bytes >>= signed_of
read Hyper bytes = number_at w64 bytes
read Flag bytes = number_at w32 bytes >>= flag_of
read (Enum known) bytes = number_at w32 bytes >>= known_of known
read (Fixed size) bytes = bytes_at size bytes
read (Opaque max) bytes = number_at w32 bytes >>= opaque_of max
read (Pair a b) bytes = do
  x ← read a bytes
  y ← read b x.1
  Ok ((x.0, y.0), y.1)
read (Array max a) bytes = do
  n ← number_at w32 bytes
  if nat_lt max n.0 then Err TooLong else read_all (read a) n.0 n.1
read (Optional a) bytes = do
  x ← number_at w32 bytes >>= flag_of
  if x.0 then (read a x.1 >>= some_of) else Ok (None, x.1)
read (Entries a) bytes = read_entries (read a) (length bytes) bytes
read (Union known arm) bytes = number_at w32 bytes >>= arm_of known arm (λ tag. read (arm tag))

-- What is read of the item at the front, seen by view, and how many bytes it takes.
abbrev pub ReadsAt : {X : Type 0} → (t : Xdr) →
    (X → Value t) → (X → ℕ) → List ℕ → Result X XdrError → Type 0
ReadsAt t view size bytes (Ok x) = (size x ≤ length bytes) × (read t bytes ≡ Ok (view x, drop (size x) bytes))
ReadsAt t view size bytes (Err e) = read t bytes ≡ Err e

-- What a reader answers, seen by view, and leaves: what reading gives, or a refusal that leaves it where it stood.
abbrev pub Reads : {X : Type 0} → (t : Xdr) →
    (X → Value t) → List ℕ → List ℕ → Result X XdrError → Type 0
Reads t view old new (Ok x) = read t old ≡ Ok (view x, new)
Reads t view old new (Err e) = (read t old ≡ Err e) × (new ≡ old)

-- The same of a reader made of items. Where the reader stands after a refusal is not said.
abbrev pub ReadsFront : {X : Type 0} → (t : Xdr) →
    (X → Value t) → List ℕ → List ℕ → Result X XdrError → Type 0
ReadsFront t view old new (Ok x) = read t old ≡ Ok (view x, new)
ReadsFront t view old new (Err e) = read t old ≡ Err e

-- The value has a byte string of 4.10 or 4.11 that is not empty. To share such a one takes memory.
abbrev pub holds_bytes : (t : Xdr) → Value t → Bool
holds_bytes (Opaque max) bytes = nat_lt 0 (length bytes)
holds_bytes (Pair a b) v = holds_bytes a v.0 || holds_bytes b v.1
holds_bytes (Array max a) vs = list_any (holds_bytes a) vs
holds_bytes (Optional a) None = false
holds_bytes (Optional a) (Some v) = holds_bytes a v
holds_bytes (Entries a) vs = list_any (holds_bytes a) vs
holds_bytes (Union known arm) v = holds_bytes (arm v.0) v.1
holds_bytes _ v = false

-- What sharing a value that was read answers: the same value, seen by view, or no memory, where it holds bytes.
abbrev pub Shares : {X : Type 0} → (t : Xdr) → (X → Value t) → Value t → Result X XdrError → Type 0
Shares t view value (Ok x) = view x ≡ value
Shares t view value (Err e) = (e ≡ Memory) × (holds_bytes t value ≡ true)

-- a value is read that holds bytes
abbrev pub HoldsBytes : (t : Xdr) → List ℕ → Type 0
HoldsBytes t bytes = IsOkAnd (read t bytes) (λ x. holds_bytes t x.0 ≡ true)

-- What a reader that shares what was read answers and leaves: what reading gives; or no memory, where what is read
-- holds bytes.
abbrev pub ReadsShared : {X : Type 0} → (t : Xdr) →
    (X → Value t) → List ℕ → List ℕ → Result X XdrError → Type 0
ReadsShared t view old new (Ok x) = read t old ≡ Ok (view x, new)
ReadsShared t view old new (Err e) = (read t old ≡ Err e) ⊎ ((e ≡ Memory) × HoldsBytes t old)

-- the bytes that are left of a whole, at its end
pub record IsEndOf (rest whole : List ℕ) : Type 0 where
  pub within : length rest ≤ length whole
  pub end : rest ≡ drop (length whole - length rest) whole
