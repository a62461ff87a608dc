-- A piece that is taken in follows what was taken in before, and its records follow those that were answered.
use Rattle.std.proofs.Common.{◌≡◌, ◌≢◌, ℕ, ◌+◌, ◌<◌, ◌≤◌, ◌⊎◌, inl, inr, List, [], ◌∷◌, ◌++◌, length, length-append}
use Rattle.std.proofs.Common.{Option, Some, None, Result, Err, refl, sym, ◌∙◌, ap, subst, append-nil, arith}
use Rattle.std.proofs.KnownBytes.{Consumes-kept, Consumes-nil, Consumes-trans}
use Rattle.std.specs.Io.KnownBytes.{Consumes, IsAtEnd}
use Rattle.nfs_rpc.specs.Records.{RecordsValue, Holds, IsStream, IsTooLarge}
use Rattle.nfs_rpc.specs.Streams.{one_more}
use Rattle.nfs_machine.specs.declared.moment.Moment.{Moment}
use Rattle.nfs_engine.specs.Engine.{EngineValue}
use Rattle.nfs_streams.specs.Served.{EndsBy, AreServed, IsFaultOf, EndsByFault, LeavesOut, ServesAll, ServesFront}
use Rattle.nfs_streams.specs.Taken.{FollowsOn, LeavesPiece, TakesPiece, TakesIn}
use Rattle.nfs_streams.specs.declared.serving.Served.{Served}
use Rattle.nfs_streams.specs.declared.serving.PieceTaken.{PieceTaken}
use Rattle.nfs_streams.specs.declared.serving.PieceTaken.TheVariants.{End, Piece, Refused}
use Rattle.nfs_streams.specs.declared.serving.StreamFault.{StreamFault}
use Rattle.nfs_streams.specs.declared.serving.StreamFault.TheVariants.{Read, Write, TooLarge, Memory}
use Rattle.nfs_streams.specs.declared.serving.TheConstants.{BUFFER_SIZE}
use Rattle.nfs_streams.proofs.AnswersJoinLemmas.{goes_nothing, goes_join, stops_join, goes_stops}
use Rattle.nfs_streams.proofs.ServingLoopLemmas.{Taking}

-- what was read is a front of the input
read_of : (unread left : Option (List ℕ)) (input fed : List ℕ) → Consumes unread left fed → unread ≡ Some input →
    Consumes (Some input) left fed
read_of unread left input fed read is = subst (λ (u : Option (List ℕ)). Consumes u left fed) is read

-- at the end of the input it is all of it
whole_of : (unread left : Option (List ℕ)) (input fed : List ℕ) → Consumes unread left fed → IsAtEnd left →
    unread ≡ Some input → fed ≡ input
whole_of None left input fed read end is = cc
whole_of (Some x) None input fed read end is = absurd read
whole_of (Some x) (Some y) input fed read end is =
    let same : x ≡ input = cc in
    sym (append-nil fed) ∙ ap (λ l. fed ++ l) (sym end) ∙ sym read ∙ same

-- no piece is left out
leaves_none : (fault : StreamFault) (others : List (List ℕ)) → LeavesOut fault [] others
leaves_none Read others = refl
leaves_none Write others = refl
leaves_none TooLarge others = refl
leaves_none Memory others = inl refl

-- the piece that is left out at a fault, where no record is left
piece_of : (fault : StreamFault) (left later : Option (List ℕ)) → LeavesPiece fault BUFFER_SIZE left later →
    (piece : List ℕ) × Consumes left later piece × LeavesOut fault piece []
piece_of Read left later keeps = ([], Consumes-kept left left later [] (Consumes-nil left) keeps, refl)
piece_of Write left later keeps = ([], Consumes-kept left left later [] (Consumes-nil left) keeps, refl)
piece_of TooLarge left later keeps = ([], Consumes-kept left left later [] (Consumes-nil left) keeps, refl)
piece_of Memory left later (piece, most, read) = (piece, read, inr (most, refl))

pub more_of : (taken : PieceTaken) (old new : RecordsValue) (piece : List ℕ) (left : Option (List ℕ)) → taken ≢ End
    → TakesIn taken old new piece left → (0 < length piece) × FollowsOn old new piece
more_of End old new piece left more t = absurd (more refl)
more_of Piece old new piece left more t = (t.0, t.1)
more_of Refused old new piece left more t = (t.0, t.1)

-- a piece that is not refused makes no record too large
pub taken_within : (taken : PieceTaken) (old new : RecordsValue) (piece : List ℕ) (left : Option (List ℕ)) → taken ≢ End
    → taken ≢ Refused → TakesIn taken old new piece left
    → (stream : List ℕ) (given : List (List ℕ)) → Holds old stream given → IsTooLarge (stream ++ piece) → ⊥
taken_within End old new piece left more other t = absurd (more refl)
taken_within Piece old new piece left more other t = t.2
taken_within Refused old new piece left more other t = absurd (other refl)

module _ {Clock : Type 0} (gives : Clock → Moment → Clock → Type 0) (host : List ℕ) (first clock : Clock)
    (old engine : EngineValue) (before now unread left : Option (List ℕ))
    (records : RecordsValue) (reads reading readings writing writings : ℕ) (t : Taking gives host first clock old engine
    before now unread left records reads reading readings writing writings) where
  -- a fault before the next piece
  pub fault_taking : (fault : StreamFault) (later : Option (List ℕ)) →
      EndsBy gives fault [] [] clock clock engine engine → IsFaultOf fault t.fed →
      LeavesPiece fault BUFFER_SIZE left later → (input : List ℕ) → unread ≡ Some input →
      ServesFront gives host input later fault first clock old engine before now
  fault_taking fault later ends is_fault leaves input is =
      let (piece, read, out) = piece_of fault left later leaves in
      record {
        fed = t.fed;
        piece = piece;
        contents = t.given;
        rest = t.holds.rest;
        read = read_of unread later input (t.fed ++ piece) (Consumes-trans unread left later t.fed piece t.read
            read) is;
        split =
            subst (λ (q : List (List ℕ)). IsStream t.fed q t.holds.rest)
            (ap (λ l. t.given ++ l) t.none ∙ append-nil t.given) t.holds.split;
        stops = goes_stops gives host fault first clock t.given old engine before now ends t.goes;
        leaves_out = out;
        is_fault = is_fault;
      }

  pub all_taken : (fuller : RecordsValue) (ahead : Option (List ℕ)) → TakesPiece End records fuller left ahead
      → (input : List ℕ) → unread ≡ Some input → ServesAll gives host input first clock old engine before now
  all_taken fuller ahead taken input is =
      let read = subst (λ (p : List ℕ). Consumes left ahead p) taken.takes.0 taken.read in
      let whole = whole_of unread ahead input (t.fed ++ []) (Consumes-trans unread left ahead t.fed [] t.read read)
      taken.takes.2 is in
      record {
        contents = t.given;
        rest = t.holds.rest;
        split =
            subst (λ (s : List ℕ). IsStream s t.given t.holds.rest) (sym (append-nil t.fed) ∙ whole)
            (subst (λ (q : List (List ℕ)). IsStream t.fed q t.holds.rest) (ap (λ l. t.given ++ l) t.none
            ∙ append-nil t.given) t.holds.split);
        within = subst (λ (s : List ℕ). IsTooLarge s → ⊥) (sym (append-nil t.fed) ∙ whole) t.within;
        goes = t.goes;
      }

  module _ (fuller : RecordsValue) (ahead : Option (List ℕ)) (taken : PieceTaken) (more : taken ≢ End)
      (takes : TakesPiece taken records fuller left ahead) where
    follows : Holds fuller (t.fed ++ takes.piece) t.given
    follows = (more_of taken records fuller takes.piece ahead more takes.takes).1 t.fed t.given t.holds

    -- a fault while the records of a piece were served
    pub fault_taken : (fault : StreamFault) (later : Clock) (next : EngineValue) (after : Option (List ℕ))
        → EndsByFault gives host fault fuller.queued clock later engine next now after
        → IsFaultOf fault (t.fed ++ takes.piece)
        → (input : List ℕ) → unread ≡ Some input
        → ServesFront gives host input ahead fault first later old next before after
    fault_taken fault later next after stops is_fault input is = record {
      fed = t.fed ++ takes.piece;
      piece = [];
      contents = t.given ++ fuller.queued;
      rest = follows.rest;
      read =
          read_of unread ahead input ((t.fed ++ takes.piece) ++ [])
          (subst (λ (w : List ℕ). Consumes unread ahead w) (sym (append-nil (t.fed ++ takes.piece)))
          (Consumes-trans unread left ahead t.fed takes.piece t.read takes.read))
          is;
      split = follows.split;
      stops = stops_join gives host fault first clock later t.given fuller.queued old engine next before now after
          t.goes stops;
      leaves_out = leaves_none fault _;
      is_fault = is_fault;
    }

    -- the piece is taken in, and its records are served
    pub taking_more : taken ≢ Refused
        → (later : Clock) (next : EngineValue) (after : Option (List ℕ)) (served : RecordsValue) (reads' writes' : ℕ)
        → AreServed gives host fuller.queued clock later engine next now after → served.queued ≡ []
        → ((stream : List ℕ) (given : List (List ℕ)) → Holds fuller stream given
        → Holds served stream (given ++ fuller.queued))
        → reads' ≡ readings → writes' ≡ writings
        → Taking gives host first later old next before after unread ahead served (reads + 1) reading reads' writing
        writes'
    taking_more other later next after served reads' writes' goes none holds reader writer =
        let some : 0 < length takes.piece = (more_of taken records fuller takes.piece ahead more takes.takes).0 in
        let many : reads ≤ length t.fed = t.many in
        record {
          fed = t.fed ++ takes.piece;
          given = t.given ++ fuller.queued;
          holds = holds (t.fed ++ takes.piece) t.given follows;
          none = none;
          within = taken_within taken records fuller takes.piece ahead more other takes.takes t.fed t.given t.holds;
          read = Consumes-trans unread left ahead t.fed takes.piece t.read takes.read;
          goes = goes_join gives host first clock later t.given fuller.queued old engine next before now after
              t.goes goes;
          many = omega (arith, length-append t.fed takes.piece);
          same_reader = reader ∙ t.same_reader;
          same_writer = writer ∙ t.same_writer;
        }

-- where a piece was refused a record is too large
pub refused_large : (taken : PieceTaken) (old new : RecordsValue) (piece : List ℕ) (left : Option (List ℕ))
    (stream : List ℕ)
    (given : List (List ℕ)) → taken ≡ Refused → TakesIn taken old new piece left
    → Holds old stream given → IsTooLarge (stream ++ piece)
refused_large taken old new piece left stream given is takes
    holds = (subst (λ (t : PieceTaken). TakesIn t old new piece left) is takes).2 stream given holds

-- no record begins an empty stream
no_record : (records : List (List ℕ)) (rest : List ℕ) → IsStream [] records rest → records ≡ []
no_record [] rest split = refl
no_record (content ∷ records) rest (front, back, cut, marked, later) =
    let whole = marked.marked in
    absurd (omega (arith, simp length-append at (ap length whole), simp length-append at (ap length cut)))

-- nor is one too large in it
none_too_large : IsTooLarge [] → ⊥
none_too_large ([], rest, split, large) =
    let whole = large.whole in
    let empty : rest ≡ [] = split.0 in
    omega (arith, simp length-append at (ap length whole), ap length empty)
none_too_large (content ∷ records, rest, split, large) = let none : (content ∷ records) ≡ [] = no_record
    (content ∷ records) rest split in cc

pub nothing_queued : (v : RecordsValue) → Holds v [] [] → v.queued ≡ []
nothing_queued v holds = no_record v.queued holds.rest holds.split

pub taking_none : {Clock : Type 0} (gives : Clock → Moment → Clock → Type 0) (host : List ℕ) (first : Clock)
    (old : EngineValue) (before unread : Option (List ℕ)) (records : RecordsValue) (reading writing : ℕ)
    → Holds records [] [] → Taking gives host first first old old before before unread unread records 0 reading reading
    writing writing
taking_none gives host first old before unread records reading writing holds = record {
  fed = [];
  given = [];
  holds = holds;
  none = nothing_queued records holds;
  within = none_too_large;
  read = Consumes-nil unread;
  goes = goes_nothing gives host first old before;
  many = omega arith;
  same_reader = refl;
  same_writer = refl;
}

-- a fault in taking a piece in is of the reader or of memory
pub ends_early : {Clock P : Type 0} (gives : Clock → Moment → Clock → Type 0) (clock : Clock) (engine : EngineValue)
    (e : StreamFault) → ((e ≡ Read) × P) ⊎ (e ≡ Memory)
    → EndsBy gives e [] [] clock clock engine engine
ends_early gives clock engine e (inl is) = subst (λ (f : StreamFault). EndsBy gives f [] [] clock clock engine engine)
    (sym is.0) (refl, (refl, refl, refl))
ends_early gives clock engine e (inr is) = subst (λ (f : StreamFault). EndsBy gives f [] [] clock clock engine engine)
    (sym is) (refl, inl (refl, refl, refl))

pub early_fault : {P : Type 0} (e : StreamFault) (fed : List ℕ) → (IsTooLarge fed → ⊥) → ((e ≡ Read) × P) ⊎ (e ≡ Memory)
    → IsFaultOf e fed
early_fault e fed within (inl is) = subst (λ (f : StreamFault). IsFaultOf f fed) (sym is.0) within
early_fault e fed within (inr is) = subst (λ (f : StreamFault). IsFaultOf f fed) (sym is) tt

pub later_fault : {P : Type 0} (e : StreamFault) (fed : List ℕ) → ((e ≡ Write) × P) ⊎ (e ≡ Memory) → IsFaultOf e fed
later_fault e fed (inl is) = subst (λ (f : StreamFault). IsFaultOf f fed) (sym is.0) tt
later_fault e fed (inr is) = subst (λ (f : StreamFault). IsFaultOf f fed) (sym is) tt

pub later_not_read : {P : Type 0} (e : StreamFault) → ((e ≡ Write) × P) ⊎ (e ≡ Memory) → e ≡ Read → ⊥
later_not_read e (inl is) read = let f : Write ≡ Read = sym is.0 ∙ read in cc
later_not_read e (inr is) read = let f : Memory ≡ Read = sym is ∙ read in cc

pub later_write : (e : StreamFault) (now before first : ℕ) → ((e ≡ Write) × (now ≡ one_more before)) ⊎ (e ≡ Memory)
    → before ≡ first → e ≡ Write → now ≡ one_more first
later_write e now before first (inl is) same write = is.1 ∙ ap one_more same
later_write e now before first (inr is) same write = let f : Memory ≡ Write = sym is ∙ write in cc

abbrev pub failed : StreamFault → Result Served StreamFault
failed e = Err e

pub err_same : (a b : StreamFault) → failed a ≡ failed b → a ≡ b
err_same a b e = cc

pub refused_other : failed TooLarge ≡ failed Read → ⊥
refused_other e = let f : TooLarge ≡ Read = cc in cc

pub refused_write : failed TooLarge ≡ failed Write → ⊥
refused_write e = let f : TooLarge ≡ Write = cc in cc

-- a fault before the first piece
pub front_none : {Clock : Type 0} (gives : Clock → Moment → Clock → Type 0) (host : List ℕ) (first : Clock)
    (old : EngineValue) (before unread : Option (List ℕ)) (records : RecordsValue)
    → Holds records [] [] → (input : List ℕ) → unread ≡ Some input →
    ServesFront gives host input unread Memory first first old old before before
front_none gives host first old before unread records holds input is = record {
  fed = [];
  piece = [];
  contents = records.queued;
  rest = holds.rest;
  read = read_of unread unread input [] (Consumes-nil unread) is;
  split = holds.split;
  stops = subst (λ (c : List (List ℕ)). EndsByFault gives host Memory c first first old old before before)
      (sym (nothing_queued records holds))
      (goes_stops gives host Memory first first [] old old before before (refl, inl (refl, refl, refl))
      (goes_nothing gives host first old before));
  leaves_out = inl refl;
  is_fault = tt;
}
