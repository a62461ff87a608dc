-- What a writer makes: the spelling whose padding is zeros (RFC 4506, section 3).
use Rattle.std.specs.Prelude.{◌≡◌, ℕ, List, [], ◌++◌, length, replicate, fold, Some, None, Result, Ok, Err}
use Rattle.std.specs.Int.{w32, w64, to_be_bytes, cast_unsigned}
use Rattle.nfs_xdr.specs.declared.XdrError.{XdrError}
use Rattle.nfs_xdr.specs.declared.XdrError.TheVariants.{Memory}
use Rattle.nfs_xdr.specs.Types.{HasSpelling, Xdr, Void, Word, Int, Hyper, Flag, Enum, Fixed, Opaque, Pair, Array}
use Rattle.nfs_xdr.specs.Types.{Optional, Entries, Union, Value, padding, flag_number}

-- bytes and their padding
abbrev pub padded : List ℕ → List ℕ
padded bytes = bytes ++ replicate (padding (length bytes)) 0

-- the bytes so far, and a number of 4 bytes, a number of 8, or padded bytes at their end
unfoldable pub with_word : ℕ → List ℕ → List ℕ
with_word n old = old ++ to_be_bytes w32 n

unfoldable pub with_hyper : ℕ → List ℕ → List ℕ
with_hyper n old = old ++ to_be_bytes w64 n

unfoldable pub with_padded : List ℕ → List ℕ → List ℕ
with_padded bytes old = old ++ padded bytes

-- the same with a discriminant and its arm, each by how it is appended
unfoldable pub with_arm : (arm : ℕ → Xdr) → ((tag : ℕ) → Value (arm tag) → List ℕ → List ℕ) →
    (tag : ℕ) × Value (arm tag) → List ℕ → List ℕ
with_arm arm inner v old = inner v.0 v.1 (with_word v.0 old)

-- the bytes so far, and the value's bytes at their end
unfoldable pub appended : (t : Xdr) → Value t → List ℕ → List ℕ
appended Void v old = old
appended Word n old = with_word n old
appended Int z old = with_word (cast_unsigned w32 z) old
appended Hyper n old = with_hyper n old
appended Flag b old = with_word (flag_number b) old
appended (Enum known) n old = with_word n old
appended (Fixed size) bytes old = with_padded bytes old
appended (Opaque max) bytes old = with_padded bytes (with_word (length bytes) old)
appended (Pair a b) v old = appended b v.1 (appended a v.0 old)
appended (Array max a) vs old = fold (λ out v. appended a v out) (with_word (length vs) old) vs
appended (Optional a) None old = with_word 0 old
appended (Optional a) (Some v) old = appended a v (with_word 1 old)
appended (Entries a) vs old = with_word 0 (fold (λ out v. appended a v (with_word 1 out)) old vs)
appended (Union known arm) v old = with_arm arm (λ tag. appended (arm tag)) v old

-- the value's bytes
abbrev pub write : (t : Xdr) → Value t → List ℕ
write t v = appended t v []

-- What a writer of a value answers and leaves: the value's bytes at the end, or no memory and what it had.
abbrev pub Writes : (t : Xdr) → Value t → List ℕ → List ℕ → Result (Unit {0}) XdrError → Type 0
Writes t v old new (Ok _) = new ≡ appended t v old
Writes t v old new (Err e) = (e ≡ Memory) × (new ≡ old)

-- The same of a writer made of items. What it has written at a refusal is not said.
abbrev pub WritesFront : (t : Xdr) → Value t → List ℕ → List ℕ → Result (Unit {0}) XdrError → Type 0
WritesFront t v old new (Ok _) = new ≡ appended t v old
WritesFront t v old new (Err e) = e ≡ Memory

-- What a writer of a value with its type answers and leaves: the value at the end, which has a spelling, or no memory.
abbrev pub WritesResult : (t : Xdr) × Value t → List ℕ → List ℕ → Result (Unit {0}) XdrError → Type 0
WritesResult value old new (Ok _) = (new ≡ appended value.0 value.1 old) × HasSpelling value.0 value.1
WritesResult value old new (Err e) = e ≡ Memory
