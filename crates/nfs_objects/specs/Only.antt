-- Attempts that ask for what is wanted first, and for nothing else.
use Rattle.std.specs.Prelude.{◌≡◌, None, Result, Ok, Err, IfErr}
use Rattle.nfs_machine.specs.declared.calls.Call.{Call}
use Rattle.nfs_objects.specs.Attempt.{first_wanted}
use Rattle.nfs_objects.specs.Values.{ViewValue}
use Rattle.nfs_objects.specs.declared.change.Change.{Change}
use Rattle.nfs_objects.specs.declared.change.Missing.{Missing}
use Rattle.nfs_objects.specs.declared.change.Missing.TheVariants as halts
use Rattle.nfs_objects.specs.declared.change.Outcome.{Outcome}
use Rattle.nfs_objects.specs.declared.change.Outcome.TheVariants.{Need, Done}

-- no address is asked for
abbrev pub AsksNothing : {A : Type 0} → Result A Missing → Type 0
AsksNothing (Err (halts.Need asked)) = ⊥
AsksNothing result = Unit {0}

abbrev pub IsNoNeed : Outcome → Type 0
IsNoNeed (Need asked) = ⊥
IsNoNeed outcome = Unit {0}

-- where the view has the exports and the object of the first handle, no address is asked for
abbrev pub AsksFirstOnly : Call → ViewValue → Outcome → Type 0
AsksFirstOnly call view outcome = first_wanted call view ≡ None → IsNoNeed outcome

abbrev pub EndsFirstOnly : Call → ViewValue → Result Change Missing → Type 0
EndsFirstOnly call view result = first_wanted call view ≡ None → AsksNothing result

-- ---- calls whose answers take no memory
-- where the view has the exports and the object of the first handle, the call is done
abbrev pub IsDone : {E : Type 0} → Result Outcome E → Type 0
IsDone (Ok (Done change)) = Unit {0}
IsDone result = ⊥

abbrev pub AnswersAtOnce : {E : Type 0} → Call → ViewValue → Result Outcome E → Type 0
AnswersAtOnce call view result = first_wanted call view ≡ None → IsDone result

abbrev pub EndsAtOnce : Call → ViewValue → Result Change Missing → Type 0
EndsAtOnce call view result = first_wanted call view ≡ None → IfErr result (λ halt. ⊥)
