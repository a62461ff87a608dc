-- One record is answered at the clock's next moment, or has no answer.
use Rattle.std.proofs.Common.{ℕ, List, [], ◌∷◌, Option, Result, Ok, Err, OnErr}
use Rattle.std.specs.declared.alloc.AllocError.{AllocError}
use Rattle.nfs_machine.specs.Run.{FromHost}
use Rattle.nfs_machine.specs.declared.moment.Moment.{Moment}
use Rattle.nfs_engine.specs.Arrivals.{IsDropped}
use Rattle.nfs_engine.specs.Engine.{EngineValue}
use Rattle.nfs_schedule.specs.declared.answer.Answer.{Answer}
use Rattle.nfs_streams.specs.Served.{AreAnswered, ExecutesNothing, HasNoAnswer, IsAnswered}
use Rattle.nfs_streams.proofs.RecordAnswerLemmas.{answered_after, nothing_join}
use Rattle.nfs_streams.proofs.AnswersJoinLemmas.{one_answered}
use Rattle.nfs_streams.proofs.ServingLoopLemmas.{unanswered}

module _ {Clock : Type 0} (gives : Clock → Moment → Clock → Type 0) (host hand : List ℕ) (first last : Clock)
    (old begun new : EngineValue) (moment : Moment) (ticked : gives first moment last)
    (nothing : ExecutesNothing old begun) where
  pub record_answered : (answer : List ℕ) →
      IsAnswered (FromHost (record { host = host; bytes = hand; moment = moment })) begun new answer →
      AreAnswered gives host (hand ∷ []) first last old new answer
  record_answered answer a =
      one_answered gives host first last moment hand old new answer ticked
      (answered_after old begun new (FromHost (record { host = host; bytes = hand; moment = moment })) answer nothing a)

  pub record_unanswered : (r : Result (Option Answer) AllocError) → (IsDropped hand → ⊥) →
      ExecutesNothing begun new → OnErr r (HasNoAnswer gives (hand ∷ []) first last old new)
  record_unanswered (Ok answer) owed a = tt
  record_unanswered (Err error) owed a =
      unanswered gives hand first last old new moment ticked owed (nothing_join old begun new nothing a)
