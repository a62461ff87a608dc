-- Names that begin other names (RFC 1813, 5.2.1: paths).
use Rattle.std.specs.Prelude.{◌≡◌, ℕ, List, ◌++◌}

-- the names are not these, followed by others
abbrev pub BeginsNot : List (List ℕ) → List (List ℕ) → Type 0
BeginsNot front names = (rest : List (List ℕ)) → names ≡ front ++ rest → ⊥
