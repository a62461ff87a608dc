-- An engine from which goes what dead files left stands where it stood.
use Rattle.std.proofs.Common.{◌≡◌, ◌∙◌, ℕ, ◌+◌, ◌≤◌, List, ap, arith, length, subst, sym}
use Rattle.nfs_machine.specs.Run.{Arrival}
use Rattle.nfs_engine.specs.Book.{BookValue}
use Rattle.nfs_engine.specs.Clearing.{Clears}
use Rattle.nfs_engine.specs.Engine.{EngineValue}
use Rattle.nfs_engine.specs.Running.{running_at}
use Rattle.nfs_replies.specs.Replies.{kept_of}
use Rattle.nfs_schedule.specs.Worlds.{IsAtRest}
use Rattle.nfs_streams.specs.Served.{IsAnswered, StandsOn}
use Rattle.nfs_streams.proofs.EraLimitLemmas.{keeps_join}

module _ (e f : EngineValue) (clears : Clears e f) where
  pub cleared_on : StandsOn e f
  cleared_on = record {
    keeps = record {
      setting = ap (λ (b : BookValue). b.setting) clears.rest;
      era_records = ap (λ (b : BookValue). b.era_records) clears.rest;
      era = λ within. record {
        some = subst (λ (n : ℕ). 1 ≤ n) (sym (ap (λ (b : BookValue). b.era_records) clears.rest)) within.some;
        most = (let records = ap (λ (b : BookValue). length b.records) clears.rest in
            let bound = ap (λ (b : BookValue). b.era_records) clears.rest in
            omega (arith, within.most, records, bound));
      };
    };
    each = λ s at. record {
      stands = clears.stands s.state at.stands;
      capacity = at.capacity ∙ sym (ap (λ (b : BookValue). b.replies.capacity) clears.rest);
      lists = at.lists ∙ sym (ap (λ (b : BookValue). kept_of b.replies) clears.rest);
    };
  }

  pub cleared_rests : IsAtRest e → IsAtRest f
  cleared_rests rest = record {
    running = λ key. ap (λ (b : BookValue). running_at b.living key) clears.rest ∙ rest.running key;
    held = λ a j. clears.held a j ∙ rest.held a j;
  }

-- what was answered is answered behind that
pub answered_on : (e f g : EngineValue) (arrival : Arrival) (answer : List ℕ) → IsAnswered arrival e f answer
    → StandsOn f g → IsAnswered arrival e g answer
answered_on e f g arrival answer a on = record {
  keeps = keeps_join e f g a.keeps on.keeps;
  each = λ s stands.
      let (records, after, answers, then) = a.each s stands in (records, after, answers, on.each after then);
}
