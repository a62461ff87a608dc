-- What calls of NLM come to, as far as a draft knows.
use Rattle.std.specs.Prelude.{◌≡◌, ℕ, List, [], ◌∷◌, ◌++◌}
use Rattle.side_wire.specs.declared.message.Message.{Message}
use Rattle.nfs_machine.specs.State.{State}
use Rattle.nfs_machine.specs.WellFormed.{WellFormed}
use Rattle.nfs_objects.specs.Calls.{locks_of}
use Rattle.nfs_objects.specs.Knows.{Possible, TurnsWhere}
use Rattle.nfs_objects.specs.Sound.{Sound}
use Rattle.nfs_objects.specs.Stands.{StoreMeaning}
use Rattle.nfs_objects.specs.Store.{Store}
use Rattle.nfs_objects.specs.Values.{DraftValue, ViewValue}
use Rattle.nfs_objects.specs.declared.address.Addr.{Addr}
use Rattle.nfs_inodes.specs.Stops.{brought_by}

-- what a call that brings a handle may ask for: the exports, the handle's object, and what the file has of locks
abbrev pub lock_places : ViewValue → (handle : List ℕ) → List Addr
lock_places view handle = brought_by view handle ++ locks_of (handle ∷ [])

-- the draft puts these messages more, and nothing else changed
pub record Sends (old new : DraftValue) (messages : List Message) : Type 0 where
  pub rest : new ≡ record old { messages = old.messages ++ messages }

-- One draft came of the other by writes that do so to what the store stands for, where this is so of that, and by these
-- messages.
pub record TurnsSending (IsSo : StoreMeaning → Type 0) (old new : DraftValue) (messages : List Message)
    (op : StoreMeaning → StoreMeaning) :
    Type 0 where
  pub turns : TurnsWhere IsSo old (record new { messages = old.messages }) op
  pub sent : new.messages ≡ old.messages ++ messages

-- A call came to this, and changed the draft with it: in each sound state that is an end of the machine, with the
-- messages that were put, and what is kept stays sound.
pub record ComesTo {Status : Type 0} (old new : DraftValue)
    (IsEnd : State → Status → List Message → State → Type 0) (status : Status) : Type 0 where
  pub messages : List Message
  pub op : StoreMeaning → StoreMeaning
  pub turns : TurnsSending (λ k. Sound k × WellFormed k.state) old new messages op
  pub sound : (s : Store) (k : StoreMeaning) → Possible old s k → WellFormed k.state → Sound (op k)
  pub ends : (s : Store) (k : StoreMeaning) → Possible old s k → WellFormed k.state →
      IsEnd k.state status messages (op k).state

-- the same of a call that changes nothing
abbrev pub KnowsEnd : {Status : Type 0} → DraftValue → (State → Status → List Message → State → Type 0) →
    Status → Type 0
KnowsEnd d IsEnd status = (s : Store) (k : StoreMeaning) → Possible d s k → WellFormed k.state →
    IsEnd k.state status [] k.state
