-- What serving the records of a stream comes to.
use Rattle.std.specs.Prelude.{◌≡◌, ◌⊎◌, ◌+◌, ◌≤◌, ℕ, false}
use Rattle.std.specs.Prelude.{List, [], ◌∷◌, ◌++◌, length, Option, Some}
use Rattle.std.specs.Io.KnownBytes.{Appends, Consumes}
use Rattle.nfs_rpc.specs.Records.{IsStream, IsTooLarge}
use Rattle.nfs_machine.specs.Run.{Setting, Arrival, FromHost, NewExports, Record, Run}
use Rattle.nfs_machine.specs.declared.moment.Moment.{Moment}
use Rattle.nfs_engine.specs.Arrivals.{IsDropped}
use Rattle.nfs_engine.specs.Book.{StandsFor, is_full, store_in}
use Rattle.nfs_engine.specs.Engine.{EngineValue}
use Rattle.nfs_replies.specs.Replies.{kept_of}
use Rattle.nfs_streams.specs.Serving.{AreFrom, AnswersArrival, Serves, Standing, Ticks}
use Rattle.nfs_streams.specs.declared.serving.StreamFault.{StreamFault}
use Rattle.nfs_streams.specs.declared.serving.StreamFault.TheVariants.{Read, Write, TooLarge, Memory}
use Rattle.nfs_streams.specs.declared.serving.TheConstants.{BUFFER_SIZE}

-- the engine's store stands for the state, and these are the replies that it keeps
pub record StandsAt (e : EngineValue) (s : Standing) : Type 0 where
  pub stands : StandsFor (store_in e.book) s.state
  pub capacity : s.capacity ≡ e.book.replies.capacity
  pub lists : s.lists ≡ kept_of e.book.replies

-- an era may have a record, and has no more than it may have
pub record IsWithinEra (e : EngineValue) : Type 0 where
  pub some : 1 ≤ e.book.era_records
  pub most : length e.book.records ≤ e.book.era_records

-- the era is not full, or it has no record
abbrev pub HasEraRoom : EngineValue → Type 0
HasEraRoom e = (is_full e.book ≡ false) ⊎ (e.book.records ≡ [])

-- what the server was started with stays, and no era gets more records than it may have
pub record KeepsSetting (old new : EngineValue) : Type 0 where
  pub setting : new.book.setting ≡ old.book.setting
  pub era_records : new.book.era_records ≡ old.book.era_records
  pub era : IsWithinEra old → IsWithinEra new

-- Nothing is executed: the store, what is to be sent, the replies that are kept and how many records there ever were
-- are as they were. The era may be over, and calls may have come and gone.
pub record ExecutesNothing (old new : EngineValue) : Type 0 where
  pub keeps : KeepsSetting old new
  pub objects : new.book.objects ≡ old.book.objects
  pub outbox : new.book.outbox ≡ old.book.outbox
  pub replies : new.book.replies ≡ old.book.replies
  pub count : new.book.before + length new.book.records ≡ old.book.before + length old.book.records

-- what the engine stood for it stands for, and keeps the same replies
pub record StandsOn (old new : EngineValue) : Type 0 where
  pub keeps : KeepsSetting old new
  pub each : (s : Standing) → StandsAt old s → StandsAt new s

-- the messages that wait are dropped, and all else is as it was
abbrev pub DropsMessages : EngineValue → EngineValue → Type 0
DropsMessages old new =
    new ≡ record old { book = record old.book { outbox = []; taken = new.book.taken } }

-- These records came from the host, one after the other and each at the clock's next moment. From here, where the
-- engine stood, the bytes are their answers, what was executed is a run, and the engine stands where that ends.
pub record Answered {Clock : Type 0} (gives : Clock → Moment → Clock → Type 0) (host : List ℕ)
    (contents : List (List ℕ)) (clock later : Clock) (old new : EngineValue) (answers : List ℕ)
    (before : Standing) : Type 0 where
  pub arrivals : List Arrival
  pub records : List Record
  pub after : Standing
  pub came : AreFrom host contents arrivals
  pub ticked : Ticks gives clock arrivals later
  pub served : Serves old.book.setting before arrivals answers records after
  pub run : Run old.book.setting before.state records after.state
  pub stands : StandsAt new after

-- so from everywhere where the engine stood; what the server was started with stays
pub record AreAnswered {Clock : Type 0} (gives : Clock → Moment → Clock → Type 0) (host : List ℕ)
    (contents : List (List ℕ)) (clock later : Clock) (old new : EngineValue) (answers : List ℕ) : Type 0 where
  pub keeps : KeepsSetting old new
  pub each : (before : Standing) → StandsAt old before →
      Answered gives host contents clock later old new answers before

-- the records were answered, and their answers were written
pub record AreServed {Clock : Type 0} (gives : Clock → Moment → Clock → Type 0) (host : List ℕ)
    (contents : List (List ℕ)) (clock later : Clock) (old new : EngineValue)
    (before after : Option (List ℕ)) : Type 0 where
  pub answers : List ℕ
  pub written : Appends before after answers
  pub answered : AreAnswered gives host contents clock later old new answers

-- none of these records is left, and nothing more was done
abbrev pub Stays : {Clock : Type 0} → List (List ℕ) → (clock later : Clock) (old new : EngineValue) → Type 0
Stays contents clock later old new = (contents ≡ []) × (later ≡ clock) × (new ≡ old)

-- the first of these records came at the clock's next moment, and has no answer though it is owed one
pub record HasNoAnswer {Clock : Type 0} (gives : Clock → Moment → Clock → Type 0) (contents : List (List ℕ))
    (clock later : Clock) (old new : EngineValue) : Type 0 where
  pub hand : List ℕ
  pub behind : List (List ℕ)
  pub whole : contents ≡ hand ∷ behind
  pub moment : Moment
  pub ticked : gives clock moment later
  pub owed : IsDropped hand → ⊥
  pub nothing : ExecutesNothing old new

-- What was done at a fault with the records that have no answer, and which bytes of the answers were not written. Read
-- and TooLarge: none is left, and all is written. Memory: none is left, or the first one has no answer, and all is
-- written. Write: some bytes may be left, and so may be records, of which the first may have come.
abbrev pub EndsBy : {Clock : Type 0} → (Clock → Moment → Clock → Type 0) → StreamFault → List (List ℕ) →
    (unsent : List ℕ) (clock later : Clock) (old new : EngineValue) → Type 0
EndsBy gives Read others unsent clock later old new = (unsent ≡ []) × Stays others clock later old new
EndsBy gives TooLarge others unsent clock later old new = (unsent ≡ []) × Stays others clock later old new
EndsBy gives Write others unsent clock later old new =
    ((later ≡ clock) × (new ≡ old)) ⊎ HasNoAnswer gives others clock later old new
EndsBy gives Memory others unsent clock later old new =
    (unsent ≡ []) × (Stays others clock later old new ⊎ HasNoAnswer gives others clock later old new)

-- The first of the records were answered, and a beginning of their answers was written; behind them serving ended by
-- the fault.
pub record EndsByFault {Clock : Type 0} (gives : Clock → Moment → Clock → Type 0) (host : List ℕ)
    (fault : StreamFault) (contents : List (List ℕ)) (clock later : Clock) (old new : EngineValue)
    (before after : Option (List ℕ)) : Type 0 where
  pub first : List (List ℕ)
  pub others : List (List ℕ)
  pub mid : Clock
  pub between : EngineValue
  pub sent : List ℕ
  pub unsent : List ℕ
  pub whole : contents ≡ first ++ others
  pub written : Appends before after sent
  pub answered : AreAnswered gives host first clock mid old between (sent ++ unsent)
  pub ends : EndsBy gives fault others unsent mid later between new

-- all records of the input were served; bytes after the last whole record are left (RFC 5531, section 11)
pub record ServesAll {Clock : Type 0} (gives : Clock → Moment → Clock → Type 0) (host input : List ℕ)
    (clock later : Clock) (old new : EngineValue) (before after : Option (List ℕ)) : Type 0 where
  pub contents : List (List ℕ)
  pub rest : List ℕ
  pub split : IsStream input contents rest
  pub within : IsTooLarge input → ⊥
  pub goes : AreServed gives host contents clock later old new before after

-- a record is too large where this is the fault, and none where a read failed
abbrev pub IsFaultOf : StreamFault → List ℕ → Type 0
IsFaultOf TooLarge fed = IsTooLarge fed
IsFaultOf Read fed = IsTooLarge fed → ⊥
IsFaultOf _ fed = Unit {0}

-- What was read and not taken in. Nothing; but at want of memory it may be one piece, and then no record is left.
abbrev pub LeavesOut : StreamFault → (piece : List ℕ) (others : List (List ℕ)) → Type 0
LeavesOut Memory piece others = (piece ≡ []) ⊎ ((length piece ≤ BUFFER_SIZE) × (others ≡ []))
LeavesOut fault piece others = piece ≡ []

-- What was read of the input is what was taken in, and a piece that was left out. Of the records of what was taken in
-- the first were served.
pub record ServesFront {Clock : Type 0} (gives : Clock → Moment → Clock → Type 0) (host input : List ℕ)
    (unread : Option (List ℕ)) (fault : StreamFault) (clock later : Clock) (old new : EngineValue)
    (before after : Option (List ℕ)) : Type 0 where
  pub fed : List ℕ
  pub piece : List ℕ
  pub contents : List (List ℕ)
  pub rest : List ℕ
  pub read : Consumes (Some input) unread (fed ++ piece)
  pub split : IsStream fed contents rest
  pub stops : EndsByFault gives host fault contents clock later old new before after
  pub leaves_out : LeavesOut fault piece stops.others
  pub is_fault : IsFaultOf fault fed

-- what came in is a record
abbrev pub IsRecord : Arrival → Type 0
IsRecord (FromHost received) = Unit {0}
IsRecord (NewExports exports moment) = ⊥

-- the record is answered so, from everywhere where the engine stood
pub record IsAnswered (arrival : Arrival) (old new : EngineValue) (answer : List ℕ) : Type 0 where
  pub keeps : KeepsSetting old new
  pub each : (before : Standing) → StandsAt old before → (records : List Record) × (after : Standing)
      × AnswersArrival old.book.setting before arrival answer records after × StandsAt new after

-- what was served is a run of the machine
abbrev pub ServedIsRun : Type 0
ServedIsRun =
    (setting : Setting) (old new : Standing) (arrivals : List Arrival) (written : List ℕ) (records : List Record)
    → Serves setting old arrivals written records new → Run setting old.state records new.state
