-- Answers that are gathered, so that those which came in one piece leave together.
use Rattle.std.specs.Prelude.{◌≡◌, ◌⊎◌, ℕ, List, [], ◌∷◌, ◌++◌, Option}
use Rattle.std.specs.Io.KnownBytes.{Appends}
use Rattle.nfs_machine.specs.declared.moment.Moment.{Moment}
use Rattle.nfs_engine.specs.Engine.{EngineValue}
use Rattle.nfs_streams.specs.Served.{AreAnswered, HasNoAnswer}
use Rattle.nfs_streams.specs.declared.serving.StreamFault.{StreamFault}
use Rattle.nfs_streams.specs.declared.serving.StreamFault.TheVariants.{Write, Memory}

-- behind what was gathered comes an answer: a beginning of both was written, and the rest is gathered now
pub record Puts (before after : Option (List ℕ)) (held kept answer : List ℕ) : Type 0 where
  pub sent : List ℕ
  pub whole : held ++ answer ≡ sent ++ kept
  pub written : Appends before after sent

-- a beginning of these bytes was written
pub record WritesPart (before after : Option (List ℕ)) (bytes : List ℕ) : Type 0 where
  pub sent : List ℕ
  pub unsent : List ℕ
  pub whole : bytes ≡ sent ++ unsent
  pub written : Appends before after sent

-- the record is answered, and its answer is written or gathered
pub record Adds {Clock : Type 0} (gives : Clock → Moment → Clock → Type 0) (host content : List ℕ)
    (clock later : Clock) (old new : EngineValue) (before after : Option (List ℕ)) (held kept : List ℕ) :
    Type 0 where
  pub answer : List ℕ
  pub puts : Puts before after held kept answer
  pub answered : AreAnswered gives host (content ∷ []) clock later old new answer

-- the record is answered, and of what was gathered and its answer a beginning was written
pub record IsCut {Clock : Type 0} (gives : Clock → Moment → Clock → Type 0) (host content : List ℕ)
    (clock later : Clock) (old new : EngineValue) (before after : Option (List ℕ)) (held : List ℕ) : Type 0 where
  pub answer : List ℕ
  pub part : WritesPart before after (held ++ answer)
  pub answered : AreAnswered gives host (content ∷ []) clock later old new answer

-- What was done at a fault with the record in hand. Memory: it has no answer, and what was gathered is written. Write:
-- it is answered or has no answer, and of all answers a beginning is written.
abbrev pub FailsBy : {Clock : Type 0} → (Clock → Moment → Clock → Type 0) → (host : List ℕ) →
    StreamFault → (content : List ℕ) (clock later : Clock) (old new : EngineValue)
    (before after : Option (List ℕ)) (held : List ℕ) → Type 0
FailsBy gives host Write content clock later old new before after held =
    IsCut gives host content clock later old new before after held
    ⊎ (WritesPart before after held × HasNoAnswer gives (content ∷ []) clock later old new)
FailsBy gives host Memory content clock later old new before after held =
    Appends before after held × HasNoAnswer gives (content ∷ []) clock later old new
FailsBy gives host fault content clock later old new before after held = ⊥
