-- A record that is refused where it came in.
use Rattle.std.proofs.Common.{◌≡◌, Err, Some, sym, ◌∙◌, ap, subst}
use Rattle.nfs_engine.specs.Arrivals.{ArrivalValue}
use Rattle.nfs_engine.specs.Book.{Admits}
use Rattle.nfs_engine.specs.Engine.{EngineValue}
use Rattle.nfs_engine.specs.declared.arrival.Reading.{Reading}
use Rattle.nfs_engine.specs.declared.arrival.Reading.TheVariants as readings
use Rattle.nfs_engine.specs.declared.asking.Asked.{Asked}
use Rattle.nfs_engine.specs.declared.running.AdmitError.{AdmitError}
use Rattle.nfs_schedule.specs.Answers.{IsRefused}
use Rattle.nfs_schedule.specs.Turns as turns
use Rattle.nfs_schedule.specs.declared.answer.Answer.{Answer}
use Rattle.nfs_schedule.specs.declared.answer.Answer.TheVariants as answers
use Rattle.nfs_schedule.specs.declared.model.worker.Worker.TheVariants.{Idle}

-- it asks one call
pub refuses_to : (a : ArrivalValue) (reading : Reading) (is asked : Asked) (answer : Answer) → reading ≡ a.reading →
    reading ≡ readings.Asks is → a.reading ≡ readings.Asks asked → IsRefused a.received is answer →
    IsRefused a.received asked answer
refuses_to a reading is asked answer same this that refused =
    let one : is ≡ asked = (let both : readings.Asks is ≡ readings.Asks asked = sym this ∙ same ∙ that in cc) in
    subst (λ (x : Asked). IsRefused a.received x answer) one refused

-- a record that is refused at its admission
pub refused_so : (e f : EngineValue) (a back : ArrivalValue) (answer : Answer) (error : AdmitError)
    (is : Admits e.book f.book a (Err (error, back))) → f ≡ e →
    ((asked : Asked) → back.reading ≡ readings.Asks asked → IsRefused back.received asked answer) →
    turns.Admits e f a Idle (Some answer)
refused_so e f a back (answers.Refused declined) error is same told = (
  is.0.asked,
  is.0.asks,
  subst (λ (x : ArrivalValue). IsRefused x.received is.0.asked (answers.Refused declined)) is.0.handed
      (told is.0.asked (ap (λ (x : ArrivalValue). x.reading) is.0.handed ∙ is.0.asks)),
  same,
  error,
  is.1,
)
refused_so e f a back (answers.Executed receipt) error is same told =
    absurd (told is.0.asked (ap (λ (x : ArrivalValue). x.reading) is.0.handed ∙ is.0.asks))
refused_so e f a back (answers.Repeated kept) error is same told =
    absurd (told is.0.asked (ap (λ (x : ArrivalValue). x.reading) is.0.handed ∙ is.0.asks))
refused_so e f a back (answers.Early faulted) error is same told =
    absurd (told is.0.asked (ap (λ (x : ArrivalValue). x.reading) is.0.handed ∙ is.0.asks))
refused_so e f a back (answers.Unanswered received) error is same told =
    absurd (told is.0.asked (ap (λ (x : ArrivalValue). x.reading) is.0.handed ∙ is.0.asks))
