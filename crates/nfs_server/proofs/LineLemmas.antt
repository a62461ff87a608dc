-- Bytes come one after the other, and a newline ends a line.
use Rattle.std.proofs.Common.{◌≡◌, ℕ, ◌<◌, false, true, List, [], ◌∷◌, ◌++◌, length, refl, sym, ap, ◌∙◌, append_assoc}
use Rattle.std.proofs.Common.{append-nil, arith}
use Rattle.std.specs.Prelude.{◌==◌}
use Rattle.std.specs.List.{All, FoldsTo, slice_split}
use Rattle.std.proofs.lemmas.List.Elements.{All-push}
use Rattle.std.proofs.lemmas.List.Splits.{slice_split_at, slice_split_none}
use Rattle.nfs_server.specs.Control.{AreLines, AreParted, HasNoNewline}

none_has_none : HasNoNewline []
none_has_none k d m = absurd (omega (arith, m))

pub none_parted : AreParted [] [] []
none_parted = (refl, none_has_none)

-- a byte more, which is no newline
pub parted_more : (bytes : List ℕ) (lines : List (List ℕ)) (rest : List ℕ) (b : ℕ) → (b == 10) ≡ false →
    AreParted bytes lines rest → AreParted (bytes ++ b ∷ []) lines (rest ++ b ∷ [])
parted_more bytes [] rest b other parted =
    (ap (λ l. l ++ b ∷ []) parted.0, All-push (λ x. (x == 10) ≡ false) rest b parted.1 other)
parted_more bytes (line ∷ lines) rest b other (behind, whole, plain, parted) = (
  behind ++ b ∷ [],
  ap (λ l. l ++ b ∷ []) whole ∙ append_assoc line (10 ∷ behind) (b ∷ []),
  plain,
  parted_more behind lines rest b other parted,
)

-- a newline ends the line
pub parted_ends : (bytes : List ℕ) (lines : List (List ℕ)) (rest : List ℕ) → AreParted bytes lines rest →
    AreParted (bytes ++ 10 ∷ []) (lines ++ rest ∷ []) []
parted_ends bytes [] rest parted = ([], ap (λ l. l ++ 10 ∷ []) parted.0, parted.1, (refl, none_has_none))
parted_ends bytes (line ∷ lines) rest (behind, whole, plain, parted) = (
  behind ++ 10 ∷ [],
  ap (λ l. l ++ 10 ∷ []) whole ∙ append_assoc line (10 ∷ behind) (10 ∷ []),
  plain,
  parted_ends behind lines rest parted,
)

pub parted_lines : (bytes : List ℕ) (lines : List (List ℕ)) (rest : List ℕ) → AreParted bytes lines rest →
    AreLines bytes lines rest
parted_lines bytes [] rest parted =
    ap (slice_split (λ b. b == 10)) parted.0 ∙ slice_split_none (λ b. b == 10) rest parted.1
parted_lines bytes (line ∷ lines) rest (behind, whole, plain, parted) =
    ap (slice_split (λ b. b == 10)) whole ∙ slice_split_at (λ b. b == 10) line 10 behind plain refl
    ∙ ap (λ l. line ∷ l) (parted_lines behind lines rest parted)
