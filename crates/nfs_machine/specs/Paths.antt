-- Paths of exports and of MNT (RFC 1813, 5.2.1): parts between slashes.
use Rattle.std.specs.Prelude.{ℕ, Bool, false, not, ◌||◌, List, [], ◌∷◌, length, filter}
use Rattle.std.specs.Prelude.{if◌then◌else◌, ◌==◌}
use Rattle.nfs_machine.specs.Bytes.{same_bytes}

abbrev pub slash : ℕ
slash = 47

abbrev pub in_front : ℕ → List (List ℕ) → List (List ℕ)
in_front b parts = elim parts [ [] ↦ (b ∷ []) ∷ [] | part ∷ others ↦ (b ∷ part) ∷ others ]

-- the pieces of a text between its slashes, the empty ones too
abbrev pub pieces : List ℕ → List (List ℕ)
pieces [] = [] ∷ []
pieces (b ∷ text) = if b == slash then [] ∷ pieces text else in_front b (pieces text)

-- the names that a path walks
abbrev pub parts : List ℕ → List (List ℕ)
parts path = filter (λ piece. not (length piece == 0)) (pieces path)

-- "." or ".."
abbrev pub is_dots : List ℕ → Bool
is_dots name = same_bytes name (46 ∷ []) || same_bytes name (46 ∷ 46 ∷ [])

abbrev pub begins_with_slash : List ℕ → Bool
begins_with_slash path = elim path [ [] ↦ false | b ∷ text ↦ b == slash ]
