-- Answering one list of records and then another answers both: arrivals, moments, answers and runs follow one another.
use Rattle.std.proofs.Common.{ℕ, List, [], ◌∷◌, ◌++◌, Option, inl, inr, refl, sym, ◌∙◌, ap, subst, append_assoc}
use Rattle.std.proofs.Common.{append-nil}
use Rattle.std.proofs.KnownBytes.{Appends-nil, Appends-trans}
use Rattle.nfs_machine.specs.Run.{Setting, Arrival, FromHost, NewExports, Record, Run}
use Rattle.nfs_machine.specs.declared.moment.Moment.{Moment}
use Rattle.nfs_machine.proofs.RunChainLemmas.{run-append}
use Rattle.nfs_engine.specs.Engine.{EngineValue}
use Rattle.nfs_streams.specs.Serving.{AreFrom, AnswersArrival, Serves, Standing, Ticks}
use Rattle.nfs_streams.specs.Served.{StandsAt, Answered, AreAnswered, EndsBy, AreServed, EndsByFault, IsAnswered}
use Rattle.nfs_streams.specs.Served.{KeepsSetting}
use Rattle.nfs_streams.specs.declared.serving.StreamFault.TheVariants.{Read, Write, TooLarge, Memory}
use Rattle.nfs_streams.proofs.EraLimitLemmas.{keeps_join, keeps_none, keeps_same}
use Rattle.nfs_streams.specs.declared.serving.StreamFault.{StreamFault}

-- an answer adds one step or none
answer_run : (setting : Setting) (old new : Standing) (arrival : Arrival) (answer : List ℕ)
    (records : List Record) → AnswersArrival setting old arrival answer records new
    → Run setting old.state records new.state
answer_run setting old new (FromHost received) answer records (inl early) =
    subst (λ (rs : List Record). Run setting old.state rs new.state) (sym early.nothing)
    (ap (λ (x : Standing). x.state) early.unchanged)
answer_run setting old new (FromHost received) answer records (inr (inl refused)) =
    subst (λ (rs : List Record). Run setting old.state rs new.state) (sym refused.nothing)
    (ap (λ (x : Standing). x.state) refused.unchanged)
answer_run setting old new (FromHost received) answer records (inr (inr (inl repeated))) =
    subst (λ (rs : List Record). Run setting old.state rs new.state) (sym repeated.nothing)
    (ap (λ (x : Standing). x.state) repeated.front)
answer_run setting old new (FromHost received) answer records (inr (inr (inr executed))) =
    subst (λ (rs : List Record). Run setting old.state rs new.state) (sym executed.one) (
      new.state,
      record { ctx = executed.ctx; call = executed.call; asks = executed.asks; step = executed.step },
      refl,
    )
answer_run setting old new (NewExports exports moment) answer records none = absurd none

pub served_run : (setting : Setting) (old new : Standing) (arrivals : List Arrival) (written : List ℕ)
    (records : List Record) → Serves setting old arrivals written records new →
    Run setting old.state records new.state
served_run setting old new [] written records served =
    subst (λ (rs : List Record). Run setting old.state rs new.state) (sym served.1)
    (ap (λ (x : Standing). x.state) served.2)
served_run setting old new (arrival ∷ arrivals) written records (answer, others, first, later, mid, w, r, now, then) =
    subst (λ (rs : List Record). Run setting old.state rs new.state) (sym r)
    (run-append setting old.state mid.state new.state first later
    (answer_run setting old mid arrival answer first now) (served_run setting mid new arrivals others later then))

served_join : (setting : Setting) (first mid last : Standing) (earlier later : List Arrival) (w x : List ℕ)
    (r s : List Record) → Serves setting first earlier w r mid → Serves setting mid later x s last
    → Serves setting first (earlier ++ later) (w ++ x) (r ++ s) last
served_join setting first mid last [] later w x r s a b =
    subst (λ (v : List ℕ). Serves setting first later (v ++ x) (r ++ s) last) (sym a.0)
    (subst (λ (q : List Record). Serves setting first later x (q ++ s) last) (sym a.1)
    (subst (λ (m : Standing). Serves setting m later x s last) a.2 b))
served_join setting first mid last (arrival ∷ earlier) later w x r s (
  answer,
  others,
  now,
  then,
  next,
  we,
  re,
  answers,
  serves,
) b = (
  answer,
  others ++ x,
  now,
  then ++ s,
  next,
  ap (λ v. v ++ x) we ∙ append_assoc answer others x,
  ap (λ q. q ++ s) re ∙ append_assoc now then s,
  answers,
  served_join setting next mid last earlier later others x then s serves b,
)

module _ {Clock : Type 0} (gives : Clock → Moment → Clock → Type 0) (host : List ℕ) where
  ticks_join : (first mid last : Clock) (earlier later : List Arrival) → Ticks gives first earlier mid
      → Ticks gives mid later last → Ticks gives first (earlier ++ later) last
  ticks_join first mid last [] later a b = subst (λ (k : Clock). Ticks gives k later last) a b
  ticks_join first mid last (arrival ∷ earlier) later a b = (a.0, a.1, ticks_join a.0 mid last earlier later a.2 b)

  from_join : (c d : List (List ℕ)) (earlier later : List Arrival) → AreFrom host c earlier →
      AreFrom host d later →
      AreFrom host (c ++ d) (earlier ++ later)
  from_join [] d [] later a b = b
  from_join [] d (arrival ∷ earlier) later a b = absurd a
  from_join (bytes ∷ c) d [] later a b = absurd a
  from_join (bytes ∷ c) d (arrival ∷ earlier) later a b = (a.0, from_join c d earlier later a.1 b)

  module _ (first mid last : Clock) (c d : List (List ℕ)) (old new newest : EngineValue) where
    module _ (w x : List ℕ) (a : AreAnswered gives host c first mid old new w)
        (b : AreAnswered gives host d mid last new newest x) where
      joined : (m : Standing) → StandsAt old m → Answered gives host (c ++ d) first last old newest (w ++ x) m
      joined m stands =
          let one = a.each m stands in
          let two = b.each one.after one.stands in
          let served : Serves old.book.setting one.after two.arrivals x two.records two.after = subst
          (λ (s : Setting). Serves s one.after two.arrivals x two.records two.after) a.keeps.setting two.served in
          let serves = served_join old.book.setting m one.after two.after one.arrivals two.arrivals w x one.records
          two.records one.served served in
          record {
            arrivals = one.arrivals ++ two.arrivals;
            records = one.records ++ two.records;
            after = two.after;
            came = from_join c d one.arrivals two.arrivals one.came two.came;
            ticked = ticks_join first mid last one.arrivals two.arrivals one.ticked two.ticked;
            served = serves;
            run = served_run old.book.setting m two.after (one.arrivals ++ two.arrivals) (w ++ x)
                (one.records ++ two.records) serves;
            stands = two.stands;
          }

      pub answered_join : AreAnswered gives host (c ++ d) first last old newest (w ++ x)
      answered_join = record { keeps = keeps_join old new newest a.keeps b.keeps; each = joined }

  -- nothing came, and nothing is answered
  pub answered_nothing : (clock : Clock) (engine : EngineValue) → AreAnswered gives host [] clock clock engine engine []
  answered_nothing clock engine = record {
    keeps = keeps_none engine;
    each = λ m stands. record {
      arrivals = [];
      records = [];
      after = m;
      came = tt;
      ticked = refl;
      served = (refl, refl, refl);
      run = refl;
      stands = stands;
    };
  }

  pub goes_nothing : (clock : Clock) (engine : EngineValue) (written : Option (List ℕ))
      → AreServed gives host [] clock clock engine engine written written
  goes_nothing clock engine written = record {
    answers = [];
    written = Appends-nil written;
    answered = answered_nothing clock engine;
  }

  pub goes_join : (first mid last : Clock) (c d : List (List ℕ)) (old new newest : EngineValue)
      (before now after : Option (List ℕ))
      → AreServed gives host c first mid old new before now → AreServed gives host d mid last new newest now after
      → AreServed gives host (c ++ d) first last old newest before after
  goes_join first mid last c d old new newest before now after a b = record {
    answers = a.answers ++ b.answers;
    written = Appends-trans before now after a.answers b.answers a.written b.written;
    answered = answered_join first mid last c d old new newest a.answers b.answers a.answered b.answered;
  }

  -- serving went on, and stopped
  pub stops_join : (fault : StreamFault) (first mid last : Clock) (c d : List (List ℕ)) (old new newest : EngineValue)
      (before now after : Option (List ℕ))
      → AreServed gives host c first mid old new before now
      → EndsByFault gives host fault d mid last new newest now after
      → EndsByFault gives host fault (c ++ d) first last old newest before after
  stops_join fault first mid last c d old new newest before now after a b = record {
    first = c ++ b.first;
    others = b.others;
    mid = b.mid;
    between = b.between;
    sent = a.answers ++ b.sent;
    unsent = b.unsent;
    whole = ap (λ l. c ++ l) b.whole ∙ sym (append_assoc c b.first b.others);
    written = Appends-trans before now after a.answers b.sent a.written b.written;
    answered = subst (λ (w : List ℕ). AreAnswered gives host (c ++ b.first) first b.mid old b.between w)
        (sym (append_assoc a.answers b.sent b.unsent))
        (answered_join first mid b.mid c b.first old new b.between a.answers (b.sent ++ b.unsent) a.answered
        b.answered);
    ends = b.ends;
  }

  -- a fault after all of these records
  abbrev pub goes_stops : (fault : StreamFault) (first last : Clock) (c : List (List ℕ)) (old new : EngineValue)
      (before after : Option (List ℕ)) → EndsBy gives fault [] [] last last new new
      → AreServed gives host c first last old new before after
      → EndsByFault gives host fault c first last old new before after
  goes_stops fault first last c old new before after ends a = record {
    first = c;
    others = [];
    mid = last;
    between = new;
    sent = a.answers;
    unsent = [];
    whole = sym (append-nil c);
    written = a.written;
    answered = subst (λ (w : List ℕ). AreAnswered gives host c first last old new w) (sym (append-nil a.answers))
        a.answered;
    ends = ends;
  }

  -- one record is answered, at the clock's next moment
  pub one_answered : (first last : Clock) (moment : Moment) (bytes : List ℕ) (old new : EngineValue) (answer : List ℕ)
      → gives first moment last →
      IsAnswered (FromHost (record { host = host; bytes = bytes; moment = moment })) old new answer
      → AreAnswered gives host (bytes ∷ []) first last old new answer
  one_answered first last moment bytes old new answer ticked a =
      let arrival : Arrival = FromHost (record { host = host; bytes = bytes; moment = moment }) in
      record {
        keeps = a.keeps;
        each = λ m stands.
            let (records, after, answers, then) = a.each m stands in
            let serves : Serves old.book.setting m (arrival ∷ []) answer records
            after = (
              answer,
              [],
              records,
              [],
              after,
              sym (append-nil answer),
              sym (append-nil records),
              answers,
              (refl, refl, refl),
            ) in
            record {
              arrivals = arrival ∷ [];
              records = records;
              after = after;
              came = ((refl, refl), tt);
              ticked = (last, ticked, refl);
              served = serves;
              run = served_run old.book.setting m after (arrival ∷ []) answer records serves;
              stands = then;
            };
      }

  -- what stays at a fault stays all in all
  ends_keeps : (fault : StreamFault) (others : List (List ℕ)) (unsent : List ℕ) (clock later : Clock)
      (old new : EngineValue) → EndsBy gives fault others unsent clock later old new → KeepsSetting old new
  ends_keeps Read others unsent clock later old new ends = keeps_same old new ends.1.2
  ends_keeps TooLarge others unsent clock later old new ends = keeps_same old new ends.1.2
  ends_keeps Write others unsent clock later old new (inl same) = keeps_same old new same.1
  ends_keeps Write others unsent clock later old new (inr came) = came.nothing.keeps
  ends_keeps Memory others unsent clock later old new (sent, inl same) = keeps_same old new same.2
  ends_keeps Memory others unsent clock later old new (sent, inr came) = came.nothing.keeps

  pub stops_keeps : (fault : StreamFault) (contents : List (List ℕ)) (clock later : Clock) (old new : EngineValue)
      (before after : Option (List ℕ)) →
      EndsByFault gives host fault contents clock later old new before after → KeepsSetting old new
  stops_keeps fault contents clock later old new before after s =
      keeps_join old s.between new s.answered.keeps
      (ends_keeps fault s.others s.unsent s.mid later s.between new s.ends)
