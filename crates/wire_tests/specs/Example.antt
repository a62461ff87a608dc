-- A file, the example of RFC 4506, section 7: how a message is described.
use Rattle.std.specs.Prelude.{◌≡◌, ◌≢◌, ℕ, List, Result, Ok, Err, nat_lt, ◌==◌, if◌then◌else◌}
use Rattle.nfs_xdr.specs.declared.XdrError.{XdrError}
use Rattle.nfs_xdr.specs.declared.XdrError.TheVariants.{Memory}
use Rattle.nfs_xdr.specs.Reading.{read}
use Rattle.nfs_xdr.specs.Types.{Xdr, Void, Opaque, Pair, Union, Value}

-- the kind: text (0), data with its creator (1), a program with its interpretor (2)
abbrev pub kind : Xdr
kind = Union (λ n. nat_lt n 3) (λ n. if n == 0 then Void else Opaque 255)

-- its name, kind, owner and content
abbrev pub file : Xdr
file = Pair (Opaque 255) (Pair kind (Pair (Opaque 32) (Opaque 65535)))

-- What a reader answers and leaves that makes a vector as it goes, for which there may be no memory at any element.
abbrev pub ReadsGrowing : {X : Type 0} → (t : Xdr) →
    (X → Value t) → List ℕ → List ℕ → Result X XdrError → Type 0
ReadsGrowing t view old new (Ok x) = read t old ≡ Ok (view x, new)
ReadsGrowing t view old new (Err e) = e ≢ Memory → read t old ≡ Err e
