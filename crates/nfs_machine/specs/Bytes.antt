-- Byte strings compared as bytes.
use Rattle.std.specs.Prelude.{ℕ, Bool, List, nat_eq}
use Rattle.std.specs.Cmp.Lexicographic.{pointwise}

-- two texts are the same bytes
abbrev pub same_bytes : List ℕ → List ℕ → Bool
same_bytes a b = pointwise nat_eq a b
