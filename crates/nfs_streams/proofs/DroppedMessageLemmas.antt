-- Messages are dropped: nothing else changes, and what was answered stays so.
use Rattle.std.proofs.Common.{◌≡◌, ◌∙◌, ℕ, List, ◌∷◌, ap, subst, sym}
use Rattle.nfs_machine.specs.declared.moment.Moment.{Moment}
use Rattle.nfs_engine.specs.Book.{BookValue}
use Rattle.nfs_engine.specs.Engine.{EngineValue}
use Rattle.nfs_engine.specs.Shards.{ShardValue}
use Rattle.nfs_streams.specs.Served.{AreAnswered, DropsMessages, StandsAt}
use Rattle.nfs_streams.proofs.EraLimitLemmas.{keeps_join, keeps_records}

-- messages are taken, and all else is as it was
abbrev pub Loses : EngineValue → EngineValue → Type 0
Loses old new =
    new ≡ record old { book = record old.book { outbox = new.book.outbox; taken = new.book.taken } }

alike : (e f : EngineValue) → e.book ≡ f.book → e.shards ≡ f.shards → e ≡ f
alike e f book shards =
    ap (λ (b : BookValue). record e { book = b }) book
    ∙ ap (λ (s : List ShardValue). record f { shards = s }) shards

module _ (first old new : EngineValue) (before : Loses first old) (same : new.shards ≡ old.shards) where
  shards : new.shards ≡ first.shards
  shards = same ∙ ap (λ (e : EngineValue). e.shards) before

pub answered_stays : {Clock : Type 0} (gives : Clock → Moment → Clock → Type 0) (host : List ℕ)
    (contents : List (List ℕ)) (clock later : Clock) (first old new : EngineValue) (answers : List ℕ) →
    DropsMessages old new → AreAnswered gives host contents clock later first old answers →
    AreAnswered gives host contents clock later first new answers
answered_stays gives host contents clock later first old new answers drops answered = record {
  keeps =
      keeps_join first old new answered.keeps
      (keeps_records old new (ap (λ (e : EngineValue). e.book.setting) drops)
      (ap (λ (e : EngineValue). e.book.era_records) drops) (ap (λ (e : EngineValue). e.book.records) drops));
  each = λ before stands. let was = answered.each before stands in record {
    arrivals = was.arrivals;
    records = was.records;
    after = was.after;
    came = was.came;
    ticked = was.ticked;
    served = was.served;
    run = was.run;
    stands =
        subst (λ (e : EngineValue). StandsAt e was.after) (sym drops)
        (record { stands = was.stands.stands; capacity = was.stands.capacity; lists = was.stands.lists });
  };
}
