-- Where what is read holds bytes: in an item, or in one behind an item that is read.
use Rattle.std.proofs.Common.{◌≡◌, ℕ, ◌<◌, true, List, length, Result, Ok, Err, IsOkAnd}
use Rattle.std.proofs.Math.Bool.{or-true}
use Rattle.std.proofs.lemmas.Bool.{lt-ltb}
use Rattle.nfs_xdr.specs.declared.XdrError.{XdrError}
use Rattle.nfs_xdr.specs.Types.{Xdr, Opaque, Pair, Value}
use Rattle.nfs_xdr.specs.Reading.{◌>>=◌, read, holds_bytes, HoldsBytes}

pub HoldsBytes-opaque : (max : ℕ) (bytes : List ℕ) (value rest : List ℕ) →
    read (Opaque max) bytes ≡ Ok (value, rest)
    → 0 < length value → HoldsBytes (Opaque max) bytes
HoldsBytes-opaque max bytes value rest is some = rw is (lt-ltb 0 (length value) some)

second : (a b : Xdr) (v : Value a) (r : Result (Value b × List ℕ) XdrError)
    → IsOkAnd r (λ y. holds_bytes b y.0 ≡ true)
    → IsOkAnd {T = Value (Pair a b) × List ℕ} (r >>= (λ y. Ok ((v, y.0), y.1)))
    (λ z. holds_bytes (Pair a b) z.0 ≡ true)
second a b v (Ok y) holds = rw holds (or-true (holds_bytes a v))
second a b v (Err e) holds = absurd holds

pub HoldsBytes-second : (a b : Xdr) (bytes rest : List ℕ) (v : Value a) → read a bytes ≡ Ok (v, rest)
    → HoldsBytes b rest → HoldsBytes (Pair a b) bytes
unfolding read
HoldsBytes-second a b bytes rest v is holds = rw is (second a b v (read b rest) holds)
