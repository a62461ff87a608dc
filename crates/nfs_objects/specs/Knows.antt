-- What a draft knows of the state, and what a change of it does to the state.
use Rattle.std.specs.Prelude.{◌≡◌, ℕ, true, Result, Ok, Err}
use Rattle.nfs_wire.specs.declared.status.NfsStatus.{NfsStatus}
use Rattle.nfs_machine.specs.Answers.{state_after}
use Rattle.nfs_machine.specs.State.{State}
use Rattle.nfs_machine.specs.WellFormed.{WellFormed}
use Rattle.nfs_objects.specs.Fits.{Fits}
use Rattle.nfs_objects.specs.Sound.{Sound}
use Rattle.nfs_objects.specs.Stands.{StoreMeaning, Represents, lives_in}
use Rattle.nfs_objects.specs.Store.{Store, with_writes}
use Rattle.nfs_objects.specs.Values.{DraftValue}

-- a store that the draft's view fits, and that stands for this once the draft is written
pub record Possible (d : DraftValue) (s : Store) (k : StoreMeaning) : Type 0 where
  pub fits : Fits d.view s
  pub stands : Represents (with_writes s d.writes) k
  pub sound : Sound k

-- a fact of the state, which is true whatever the store
abbrev pub Knows : DraftValue → (StoreMeaning → Type 0) → Type 0
Knows d fact = (s : Store) (k : StoreMeaning) → Possible d s k → fact k

-- the same, whether what the store stands for is sound or not
abbrev pub Shows : DraftValue → (StoreMeaning → Type 0) → Type 0
Shows d fact = (s : Store) (k : StoreMeaning) → Fits d.view s → Represents (with_writes s d.writes) k → fact k

-- the draft shows that the export with this number lives
abbrev pub ShowsExport : DraftValue → (number : ℕ) → Type 0
ShowsExport d number = Shows d (λ k. lives_in k.state.exports number ≡ true)

-- one draft came of the other by writes that do so to what the store stands for
pub record Turns (old new : DraftValue) (op : StoreMeaning → StoreMeaning) : Type 0 where
  pub ctx : new.ctx ≡ old.ctx
  pub view : new.view ≡ old.view
  pub modes : new.modes ≡ old.modes
  pub messages : new.messages ≡ old.messages
  pub turns : (s : Store) (k : StoreMeaning) → Fits old.view s → Represents (with_writes s old.writes) k →
      Represents (with_writes s new.writes) (op k)

-- the same where this is so of what the store stands for
pub record TurnsWhere (IsSo : StoreMeaning → Type 0) (old new : DraftValue) (op : StoreMeaning → StoreMeaning) : Type
    0 where
  pub ctx : new.ctx ≡ old.ctx
  pub view : new.view ≡ old.view
  pub modes : new.modes ≡ old.modes
  pub messages : new.messages ≡ old.messages
  pub turns : (s : Store) (k : StoreMeaning) → Fits old.view s → Represents (with_writes s old.writes) k → IsSo k →
      Represents (with_writes s new.writes) (op k)

-- the end of this result, where this is the state after it
abbrev pub ending : {A : Type 0} → Result A NfsStatus → State → Result (A × State) NfsStatus
ending (Ok x) after = Ok (x, after)
ending (Err e) after = Err e

-- A call came to this result, and changed the draft with it: in each sound state that is an end of the machine, what is
-- kept stays sound, and a refusal changes nothing.
pub record Does {A : Type 0} (old new : DraftValue) (IsEnd : State → Result (A × State) NfsStatus → Type 0)
    (result : Result A NfsStatus) : Type 0 where
  pub op : StoreMeaning → StoreMeaning
  pub turns : Turns old new op
  pub sound : (s : Store) (k : StoreMeaning) → Possible old s k → WellFormed k.state → Sound (op k)
  pub ends : (s : Store) (k : StoreMeaning) → Possible old s k → WellFormed k.state →
      IsEnd k.state (ending result (op k).state)
  pub stays : (k : StoreMeaning) → (op k).state ≡ state_after k.state (ending result (op k).state)
