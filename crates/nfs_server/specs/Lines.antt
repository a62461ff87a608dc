-- What comes and goes over a connection.
use Rattle.std.specs.Prelude.{ℕ, List, Option, Some, None, Result, Ok, Err, take}
use Rattle.std.specs.Io.KnownBytes.{Consumes, Keeps}

-- a read consumed the bytes that it gave, and nothing where nothing came or it failed
abbrev pub ReadsWithin : {E : Type 0} → (old new : Option (List ℕ)) → Result (Option ℕ) E → List ℕ → Type 0
ReadsWithin old new (Ok (Some count)) buffer = Consumes old new (take count buffer)
ReadsWithin old new (Ok None) buffer = Keeps old new
ReadsWithin old new (Err error) buffer = Keeps old new
