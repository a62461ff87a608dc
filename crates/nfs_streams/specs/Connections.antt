-- A connection of a peer: what it sent, and what waits to be sent to it.
use Rattle.std.specs.Prelude.{◌≡◌, ℕ, Bool, false, List, [], ◌∷◌, ◌++◌}
use Rattle.std.specs.Prelude.{Option, Some, None}
use Rattle.std.specs.List.{concat}
use Rattle.nfs_rpc.specs.Records.{RecordsValue, Holds}
use Rattle.nfs_schedule.specs.Answers.{reply_bytes}
use Rattle.nfs_schedule.specs.declared.answer.Answer.{Answer}

-- the bytes of an answer, if there is one
abbrev pub bytes_of : Option Answer → List ℕ
bytes_of (Some answer) = reply_bytes answer
bytes_of None = []

-- What a clause sees of a `Connection`: the records that came and were not given yet, with the rest of the stream; the
-- bytes that are sent first, and those behind them; whether these are to be sent before the next answer.
pub record ConnectionValue : Type 0 where
  pub records : RecordsValue
  pub gathered : List ℕ
  pub last : List ℕ
  pub full : Bool

-- the bytes that wait to be sent
abbrev pub waiting : ConnectionValue → List ℕ
waiting c = c.gathered ++ c.last

-- nothing came, and nothing waits
pub record IsNew (c : ConnectionValue) : Type 0 where
  pub records : Holds c.records [] []
  pub none : waiting c ≡ []
  pub free : c.full ≡ false

-- what waited was sent, and there is room for more answers
abbrev pub SendsAll : ConnectionValue → ConnectionValue → Type 0
SendsAll old new = new ≡ record old { gathered = []; last = []; full = false }

-- The peer sent this stream, of which these records were given. These answers were put, each whole and one behind the
-- other; of them these bytes were sent, and the others wait.
pub record Carries (c : ConnectionValue) (stream : List ℕ) (given answers : List (List ℕ)) (sent : List ℕ) :
    Type 0 where
  pub holds : Holds c.records stream given
  pub whole : concat answers ≡ sent ++ waiting c

-- What a connection carries goes on: with a piece that comes, a record that is given, an answer that is put, and what
-- waits that is sent.
abbrev pub CarriesOn : Type 0
CarriesOn = (old new : ConnectionValue) (stream : List ℕ) (given answers : List (List ℕ)) (sent : List ℕ)
    → Carries old stream given answers sent
    → ((piece : List ℕ) → Holds new.records (stream ++ piece) given → waiting new ≡ waiting old
    → Carries new (stream ++ piece) given answers sent)
    × ((content : List ℕ) → Holds new.records stream (given ++ content ∷ []) → waiting new ≡ waiting old
    → Carries new stream (given ++ content ∷ []) answers sent)
    × ((answer : List ℕ) → new.records ≡ old.records → waiting new ≡ waiting old ++ answer
    → Carries new stream given (answers ++ answer ∷ []) sent)
    × (SendsAll old new → Carries new stream given answers (sent ++ waiting old))
