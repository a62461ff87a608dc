-- What taking a piece of the input in does.
use Rattle.std.specs.Prelude.{◌≡◌, ℕ, ◌<◌, ◌≤◌, List, [], ◌++◌, length, Option}
use Rattle.std.specs.Io.KnownBytes.{Consumes, IsAtEnd, Keeps}
use Rattle.nfs_rpc.specs.Records.{RecordsValue, Holds, IsTooLarge}
use Rattle.nfs_streams.specs.declared.serving.StreamFault.{StreamFault}
use Rattle.nfs_streams.specs.declared.serving.StreamFault.TheVariants.{Memory}
use Rattle.nfs_streams.specs.declared.serving.PieceTaken.{PieceTaken}
use Rattle.nfs_streams.specs.declared.serving.PieceTaken.TheVariants.{End, Piece, Refused}

-- the piece follows the stream
abbrev pub FollowsOn : RecordsValue → RecordsValue → List ℕ → Type 0
FollowsOn old new piece =
    (stream : List ℕ) (given : List (List ℕ)) → Holds old stream given → Holds new (stream ++ piece) given

abbrev pub TakesIn : PieceTaken → RecordsValue → RecordsValue → List ℕ → Option (List ℕ) → Type 0
TakesIn End old new piece left = (piece ≡ []) × (new ≡ old) × IsAtEnd left
TakesIn Piece old new piece left =
    (0 < length piece) × FollowsOn old new piece
    × ((stream : List ℕ) (given : List (List ℕ)) → Holds old stream given
    → IsTooLarge (stream ++ piece) → ⊥)
TakesIn Refused old new piece left =
    (0 < length piece) × FollowsOn old new piece
    × ((stream : List ℕ) (given : List (List ℕ)) → Holds old stream given
    → IsTooLarge (stream ++ piece))

-- a piece of the input was taken in, or its end was met
pub record TakesPiece (taken : PieceTaken) (old new : RecordsValue) (before left : Option (List ℕ)) : Type 0 where
  pub piece : List ℕ
  pub read : Consumes before left piece
  pub takes : TakesIn taken old new piece left

-- at want of memory at most one piece was read, and left out; at another fault nothing was read
abbrev pub LeavesPiece : StreamFault → (most : ℕ) (before left : Option (List ℕ)) → Type 0
LeavesPiece Memory most before left = (piece : List ℕ) × (length piece ≤ most) × Consumes before left piece
LeavesPiece fault most before left = Keeps before left
