-- What the loops of serving keep: so much is written, answered, gathered, taken in.
use Rattle.std.proofs.Common.{◌≡◌, ℕ, ◌≤◌, List, [], ◌∷◌, ◌++◌, inl, inr, length, take, drop, take-append-drop}
use Rattle.std.proofs.Common.{append_assoc, append-nil, Option, Result, Ok, Err, IfErr, OnOk, OnErr, refl, sym, ◌∙◌, ap}
use Rattle.std.proofs.Common.{subst}
use Rattle.nfs_streams.specs.declared.serving.StreamFault.{StreamFault}
use Rattle.nfs_streams.specs.declared.serving.StreamFault.TheVariants.{Read, TooLarge, Write, Memory}
use Rattle.nfs_streams.proofs.AnswersJoinLemmas.{answered_join, answered_nothing}
use Rattle.std.proofs.KnownBytes.{Appends-nil, Appends-trans}
use Rattle.std.specs.Io.KnownBytes.{Appends, Consumes}
use Rattle.nfs_rpc.specs.Records.{RecordsValue, Holds, IsTooLarge}
use Rattle.nfs_machine.specs.declared.moment.Moment.{Moment}
use Rattle.nfs_engine.specs.Arrivals.{IsDropped}
use Rattle.nfs_engine.specs.Engine.{EngineValue}
use Rattle.nfs_streams.specs.Sent.{Adds, FailsBy, IsCut, Puts, WritesPart}
use Rattle.nfs_streams.specs.Served.{AreAnswered, EndsBy, ExecutesNothing, AreServed, HasNoAnswer, EndsByFault}

-- ---- writing
-- a front of the bytes is written
pub record Writing (before now : Option (List ℕ)) (bytes rest : List ℕ) (failures fails : ℕ) : Type 0 where
  pub sent : List ℕ
  pub cut : bytes ≡ sent ++ rest
  pub written : Appends before now sent
  pub same : fails ≡ failures

pub writing_more : (before now later : Option (List ℕ)) (bytes rest left : List ℕ) (failures fails failed n : ℕ) →
    Writing before now bytes rest failures fails → Appends now later (take n rest) → left ≡ drop n rest →
    failed ≡ fails → Writing before later bytes left failures failed
writing_more before now later bytes rest left failures fails failed n w more is same = record {
  sent = w.sent ++ take n rest;
  cut =
      w.cut ∙ ap (λ l. w.sent ++ l) (sym (take-append-drop n rest))
      ∙ sym (append_assoc w.sent (take n rest) (drop n rest))
      ∙ ap (λ l. (w.sent ++ take n rest) ++ l) (sym is);
  written = Appends-trans before now later w.sent (take n rest) w.written more;
  same = same ∙ w.same;
}

-- ---- gathering
-- a beginning of nothing more
pub part_none : (before : Option (List ℕ)) (bytes : List ℕ) → WritesPart before before bytes
part_none before bytes = record { sent = []; unsent = bytes; whole = refl; written = Appends-nil before }

-- a beginning of what comes first
pub part_first : (before after : Option (List ℕ)) (held answer : List ℕ) → WritesPart before after held →
    WritesPart before after (held ++ answer)
part_first before after held answer p = record {
  sent = p.sent;
  unsent = p.unsent ++ answer;
  whole = ap (λ l. l ++ answer) p.whole ∙ append_assoc p.sent p.unsent answer;
  written = p.written;
}

-- all of what comes first, and a beginning of what comes then
pub part_then : (before now after : Option (List ℕ)) (held answer : List ℕ) → Appends before now held →
    WritesPart now after answer → WritesPart before after (held ++ answer)
part_then before now after held answer a p = record {
  sent = held ++ p.sent;
  unsent = p.unsent;
  whole = ap (λ l. held ++ l) p.whole ∙ sym (append_assoc held p.sent p.unsent);
  written = Appends-trans before now after held p.sent a p.written;
}

-- what is not gathered is written behind what was
module _ (before now after : Option (List ℕ)) (was held kept answer : List ℕ) (is : was ≡ held)
    (wrote : Appends before now was) (r : Result (Unit {0}) StreamFault) where
  sent : Appends before now held
  sent = subst (λ (w : List ℕ). Appends before now w) is wrote

  pub then_part : OnErr r (WritesPart now after answer) → OnErr r (WritesPart before after (held ++ answer))
  then_part part = elim r as (λ x. OnErr x (WritesPart now after answer) →
      OnErr x (WritesPart before after (held ++ answer))) [
        | Ok u ↦ λ p. tt
        | Err e ↦ λ p. part_then before now after held answer sent p
      ] part

-- ---- one record
module _ {Clock : Type 0} (gives : Clock → Moment → Clock → Type 0) (host hand : List ℕ) (first last : Clock)
    (old new : EngineValue) (before after : Option (List ℕ)) (held kept answer bytes : List ℕ) where
  pub put_adds : (r : Result (Unit {0}) StreamFault) → OnOk r (Puts before after held kept bytes) → bytes ≡ answer →
      AreAnswered gives host (hand ∷ []) first last old new answer →
      OnOk r (Adds gives host hand first last old new before after held kept)
  put_adds (Ok u) puts is a = record {
    answer = answer;
    puts = subst (λ (w : List ℕ). Puts before after held kept w) is puts;
    answered = a;
  }
  put_adds (Err e) puts is a = tt

  put_cut : WritesPart before after (held ++ bytes) → bytes ≡ answer →
      AreAnswered gives host (hand ∷ []) first last old new answer →
      IsCut gives host hand first last old new before after held
  put_cut part is a = record {
    answer = answer;
    part = subst (λ (w : List ℕ). WritesPart before after (held ++ w)) is part;
    answered = a;
  }

  pub put_fails : (P : Type 0) (r : Result (Unit {0}) StreamFault) →
      OnErr r (WritesPart before after (held ++ bytes)) → IfErr r (λ e. (e ≡ Write) × P) → bytes ≡ answer →
      AreAnswered gives host (hand ∷ []) first last old new answer →
      IfErr r (λ e. FailsBy gives host e hand first last old new before after held)
  put_fails P (Ok u) part fault is a = tt
  put_fails P (Err e) part fault is a =
      subst (λ (f : StreamFault). FailsBy gives host f hand first last old new before after held) (sym fault.0)
      (inl (put_cut part is a))

-- the first of these records
abbrev front_of : List (List ℕ) → List ℕ
front_of [] = []
front_of (first ∷ others) = first

pub unanswered : {Clock : Type 0} (gives : Clock → Moment → Clock → Type 0) (hand : List ℕ) (first last : Clock)
    (old new : EngineValue) (moment : Moment) → gives first moment last → (IsDropped hand → ⊥) →
    ExecutesNothing old new → HasNoAnswer gives (hand ∷ []) first last old new
unanswered gives hand first last old new moment ticked owed nothing = record {
  hand = hand;
  behind = [];
  whole = refl;
  moment = moment;
  ticked = ticked;
  owed = owed;
  nothing = nothing;
}

-- it has no answer, and what was gathered is sent in part
pub left_fails : {Clock : Type 0} (gives : Clock → Moment → Clock → Type 0) (host hand : List ℕ) (first last : Clock)
    (old new : EngineValue) (before after : Option (List ℕ)) (held : List ℕ) (e : StreamFault) → e ≡ Write →
    WritesPart before after held → HasNoAnswer gives (hand ∷ []) first last old new →
    FailsBy gives host e hand first last old new before after held
left_fails gives host hand first last old new before after held e is part came =
    subst (λ (f : StreamFault). FailsBy gives host f hand first last old new before after held) (sym is)
    (inr (part, came))

-- ---- the records of a piece
-- the first of the records that had come are answered, and a beginning of their answers is written
pub record Answering {Clock : Type 0} (gives : Clock → Moment → Clock → Type 0) (host : List ℕ) (first clock : Clock)
    (old engine : EngineValue) (before now : Option (List ℕ)) (initial records : RecordsValue) (held : List ℕ)
    (failures fails : ℕ) : Type 0 where
  pub served : List (List ℕ)
  pub cut : initial.queued ≡ served ++ records.queued
  pub sent : List ℕ
  pub written : Appends before now sent
  pub answered : AreAnswered gives host served first clock old engine (sent ++ held)
  pub holds : (stream : List ℕ) (given : List (List ℕ)) → Holds initial stream given →
      Holds records stream (given ++ served)
  pub same : fails ≡ failures

pub answering_none : {Clock : Type 0} (gives : Clock → Moment → Clock → Type 0) (host : List ℕ) (first : Clock)
    (old : EngineValue) (before : Option (List ℕ)) (initial : RecordsValue) (held : List ℕ) (failures : ℕ) →
    held ≡ [] → Answering gives host first first old old before before initial initial held failures failures
answering_none gives host first old before initial held failures none = record {
  served = [];
  cut = refl;
  sent = [];
  written = Appends-nil before;
  answered = subst (λ (w : List ℕ). AreAnswered gives host [] first first old old w) (sym none)
      (answered_nothing gives host first old);
  holds = λ stream given holds. subst (λ (l : List (List ℕ)). Holds initial stream l) (sym (append-nil given)) holds;
  same = refl;
}

module _ {Clock : Type 0} (gives : Clock → Moment → Clock → Type 0) (host : List ℕ) (first clock later : Clock)
    (old engine next : EngineValue) (before now after : Option (List ℕ)) (initial records left : RecordsValue)
    (held : List ℕ) (failures fails failed : ℕ) where
  -- what was answered, and the answer of the next record
  joined : (r answer : List ℕ) (a : Answering gives host first clock old engine before now initial records held failures
      fails) →
      AreAnswered gives host (r ∷ []) clock later engine next answer →
      AreAnswered gives host (a.served ++ r ∷ []) first later old next (a.sent ++ (held ++ answer))
  joined r answer a b =
      subst (λ (w : List ℕ). AreAnswered gives host (a.served ++ r ∷ []) first later old next w)
      (append_assoc a.sent held answer)
      (answered_join gives host first clock later a.served (r ∷ []) old engine next (a.sent ++ held) answer
      a.answered b)

  -- the next record is answered
  pub answering_more : (kept r : List ℕ) →
      Answering gives host first clock old engine before now initial records held failures fails →
      records ≡ record left { queued = r ∷ left.queued } →
      ((stream : List ℕ) (given : List (List ℕ)) → Holds records stream given → Holds left stream (given ++ r ∷ [])) →
      Adds gives host r clock later engine next now after held kept → failed ≡ fails →
      Answering gives host first later old next before after initial left kept failures failed
  answering_more kept r a is moves adds same = record {
    served = a.served ++ r ∷ [];
    cut = a.cut ∙ ap (λ (v : RecordsValue). a.served ++ v.queued) is ∙ sym (append_assoc a.served (r ∷ []) left.queued);
    sent = a.sent ++ adds.puts.sent;
    written = Appends-trans before now after a.sent adds.puts.sent a.written adds.puts.written;
    answered =
        subst (λ (w : List ℕ). AreAnswered gives host (a.served ++ r ∷ []) first later old next w)
        (ap (λ l. a.sent ++ l) adds.puts.whole ∙ sym (append_assoc a.sent adds.puts.sent kept))
        (joined r adds.answer a adds.answered);
    holds = λ stream given holds. subst (λ (l : List (List ℕ)). Holds left stream l)
        (append_assoc given a.served (r ∷ [])) (moves stream (given ++ a.served) (a.holds stream given holds));
    same = same ∙ a.same;
  }

  module _ (r : List ℕ) (a : Answering gives host first clock old engine before now initial records held failures fails)
      (is : records ≡ record left { queued = r ∷ left.queued }) where
    whole : initial.queued ≡ a.served ++ (r ∷ left.queued)
    whole = a.cut ∙ ap (λ (v : RecordsValue). a.served ++ v.queued) is

    -- it is answered, and its answer is cut
    stops_cut : IsCut gives host r clock later engine next now after held →
        EndsByFault gives host Write initial.queued first later old next before after
    stops_cut c = record {
      first = a.served ++ r ∷ [];
      others = left.queued;
      mid = later;
      between = next;
      sent = a.sent ++ c.part.sent;
      unsent = c.part.unsent;
      whole = whole ∙ sym (append_assoc a.served (r ∷ []) left.queued);
      written = Appends-trans before now after a.sent c.part.sent a.written c.part.written;
      answered =
          subst (λ (w : List ℕ). AreAnswered gives host (a.served ++ r ∷ []) first later old next w)
          (ap (λ l. a.sent ++ l) c.part.whole ∙ sym (append_assoc a.sent c.part.sent c.part.unsent))
          (joined r c.answer a c.answered);
      ends = inl (refl, refl);
    }

    -- it came, and has no answer
    left_behind : HasNoAnswer gives (r ∷ []) clock later engine next →
        HasNoAnswer gives (r ∷ left.queued) clock later engine next
    left_behind u = record {
      hand = r;
      behind = left.queued;
      whole = refl;
      moment = u.moment;
      ticked = u.ticked;
      owed = subst (λ (bytes : List ℕ). IsDropped bytes → ⊥) (sym (ap front_of u.whole)) u.owed;
      nothing = u.nothing;
    }

    stops_part : (fault : StreamFault) (p : WritesPart now after held) →
        EndsBy gives fault (r ∷ left.queued) p.unsent clock later engine next →
        EndsByFault gives host fault initial.queued first later old next before after
    stops_part fault p ends = record {
      first = a.served;
      others = r ∷ left.queued;
      mid = clock;
      between = engine;
      sent = a.sent ++ p.sent;
      unsent = p.unsent;
      whole = whole;
      written = Appends-trans before now after a.sent p.sent a.written p.written;
      answered =
          subst (λ (w : List ℕ). AreAnswered gives host a.served first clock old engine w)
          (ap (λ l. a.sent ++ l) p.whole ∙ sym (append_assoc a.sent p.sent p.unsent)) a.answered;
      ends = ends;
    }

    -- serving ends at the next record
    pub answering_stops : (fault : StreamFault) → FailsBy gives host fault r clock later engine next now after held →
        EndsByFault gives host fault initial.queued first later old next before after
    answering_stops Read fails = absurd fails
    answering_stops TooLarge fails = absurd fails
    answering_stops Write (inl cut) = stops_cut cut
    answering_stops Write (inr came) = stops_part Write came.0 (inr (left_behind came.1))
    answering_stops Memory came =
        stops_part Memory
        (record { sent = held; unsent = []; whole = sym (append-nil held); written = came.0 })
        (refl, inr (left_behind came.1))

-- no record is left, and what is gathered is sent
module _ {Clock : Type 0} (gives : Clock → Moment → Clock → Type 0) (host : List ℕ) (first clock : Clock)
    (old engine : EngineValue) (before now after : Option (List ℕ)) (initial records : RecordsValue)
    (held : List ℕ) (failures fails : ℕ)
    (a : Answering gives host first clock old engine before now initial records held failures fails)
    (none : records.queued ≡ []) where
  all_served : initial.queued ≡ a.served
  all_served = a.cut ∙ ap (λ l. a.served ++ l) none ∙ append-nil a.served

  all_goes : Appends now after held → AreServed gives host initial.queued first clock old engine before after
  all_goes more = subst (λ (c : List (List ℕ)). AreServed gives host c first clock old engine before after)
      (sym all_served)
      (record {
        answers = a.sent ++ held;
        written = Appends-trans before now after a.sent held a.written more;
        answered = a.answered;
      })

  pub sent_goes : (r : Result (Unit {0}) StreamFault) → OnOk r (Appends now after held) →
      OnOk r (AreServed gives host initial.queued first clock old engine before after)
  sent_goes (Ok u) more = all_goes more
  sent_goes (Err e) more = tt

  all_stops : WritesPart now after held
      → EndsByFault gives host Write initial.queued first clock old engine before after
  all_stops p = record {
    first = a.served;
    others = [];
    mid = clock;
    between = engine;
    sent = a.sent ++ p.sent;
    unsent = p.unsent;
    whole = all_served ∙ sym (append-nil a.served);
    written = Appends-trans before now after a.sent p.sent a.written p.written;
    answered =
        subst (λ (w : List ℕ). AreAnswered gives host a.served first clock old engine w)
        (ap (λ l. a.sent ++ l) p.whole ∙ sym (append_assoc a.sent p.sent p.unsent)) a.answered;
    ends = inl (refl, refl);
  }

  pub sent_stops : (P : Type 0) (r : Result (Unit {0}) StreamFault) → OnErr r (WritesPart now after held) →
      IfErr r (λ e. (e ≡ Write) × P) →
      IfErr r (λ e. EndsByFault gives host e initial.queued first clock old engine before after)
  sent_stops P (Ok u) part fault = tt
  sent_stops P (Err e) part fault =
      subst (λ (f : StreamFault). EndsByFault gives host f initial.queued first clock old engine before after)
      (sym fault.0)
      (all_stops part)

-- ---- the pieces of the input
-- a front of the input is taken in, in at least so many bytes as there were reads, and all its records are answered
pub record Taking {Clock : Type 0} (gives : Clock → Moment → Clock → Type 0) (host : List ℕ) (first clock : Clock)
    (old engine : EngineValue) (before now : Option (List ℕ)) (unread left : Option (List ℕ)) (records : RecordsValue)
    (reads : ℕ) (reading readings writing writings : ℕ) : Type 0 where
  pub fed : List ℕ
  pub given : List (List ℕ)
  pub holds : Holds records fed given
  pub none : records.queued ≡ []
  pub within : IsTooLarge fed → ⊥
  pub read : Consumes unread left fed
  pub goes : AreServed gives host given first clock old engine before now
  pub many : reads ≤ length fed
  pub same_reader : readings ≡ reading
  pub same_writer : writings ≡ writing
