-- What a call of NLM comes to is its promise.
use Rattle.std.proofs.Common.{◌≡◌, List, [], ◌++◌, refl, sym, ◌∙◌, ap, subst}
use Rattle.side_wire.specs.declared.message.Message.{Message}
use Rattle.nfs_machine.proofs.StepKeepsLemmas.{steps_keep_form}
use Rattle.nfs_machine.specs.State.{State}
use Rattle.nfs_machine.specs.Step.{Step}
use Rattle.nfs_machine.specs.WellFormed.{WellFormed}
use Rattle.nfs_machine.specs.declared.calls.Call.{Call}
use Rattle.nfs_machine.specs.declared.calls.Reply.{Reply}
use Rattle.nfs_objects.specs.Fits.{Fits}
use Rattle.nfs_objects.specs.Knows.{Possible}
use Rattle.nfs_objects.specs.Promise.{Given, Held, IsPromised}
use Rattle.nfs_objects.specs.Sound.{Sound}
use Rattle.nfs_objects.specs.Stands.{StoreMeaning, Represents}
use Rattle.nfs_objects.specs.Store.{Store, with_writes}
use Rattle.nfs_objects.specs.Values.{ChangeValue, DraftValue, done_value}
use Rattle.nlm_daemon.specs.Comes.{ComesTo, KnowsEnd, TurnsSending}

-- where nothing was written yet, the store stands for what it stands for once the draft is written
pub possible-before : (d : DraftValue) → d.writes ≡ [] → (s : Store) (k : StoreMeaning) → Fits d.view s
    → Represents s k →
    Sound k →
    Possible d s k
possible-before d none s k fits stands sound = record {
  fits = fits;
  stands = subst (λ ws. Represents (with_writes s ws) k) (sym none) stands;
  sound = sound;
}

-- a call that changes nothing comes to what is known of it
abbrev pub comes-unchanged : {Status : Type 0} (d : DraftValue)
    (IsEnd : State → Status → List Message → State → Type 0) (status : Status) → KnowsEnd d IsEnd status →
    d.messages ≡ d.messages ++ [] → ComesTo d d IsEnd status
comes-unchanged d IsEnd status ends quiet = record {
  messages = [];
  op = λ k. k;
  turns = record {
    turns = record {
      ctx = refl;
      view = refl;
      modes = refl;
      messages = refl;
      turns = λ s k fits stands so. stands;
    };
    sent = quiet;
  };
  sound = λ s k w formed. w.sound;
  ends = ends;
}

-- a change comes to what it is an end of, in each state that is possible
pub sent-comes : {Status : Type 0} (old new : DraftValue) (IsEnd : State → Status → List Message → State → Type 0)
    (status : Status) (IsSo : StoreMeaning → Type 0) (messages : List Message) (op : StoreMeaning → StoreMeaning) →
    TurnsSending IsSo old new messages op → ((k : StoreMeaning) → Sound k → Sound (op k)) →
    ((s : Store) (k : StoreMeaning) → Possible old s k → WellFormed k.state →
    IsSo k × IsEnd k.state status messages (op k).state) → ComesTo old new IsEnd status
sent-comes old new IsEnd status IsSo messages op sending sound comes = record {
  messages = messages;
  op = op;
  turns = record {
    turns = record {
      ctx = sending.turns.ctx;
      view = sending.turns.view;
      modes = sending.turns.modes;
      messages = sending.turns.messages;
      turns = λ s k fits stands so.
          sending.turns.turns s k fits stands
          (comes s k (record { fits = fits; stands = stands; sound = so.0 }) so.1).0;
    };
    sent = sending.sent;
  };
  sound = λ s k w formed. sound k w.sound;
  ends = λ s k w formed. (comes s k w formed).1;
}

-- an end of one kind that is one of another
pub comes-as : {Status : Type 0} (old new : DraftValue) (P Q : State → Status → List Message → State → Type 0)
    (status : Status) → ((s : Store) (k : StoreMeaning) → Possible old s k → WellFormed k.state
    → (messages : List Message)
    (after : State) → P k.state status messages after → Q k.state status messages after) →
    ComesTo old new P status → ComesTo old new Q status
comes-as old new P Q status means comes = record {
  messages = comes.messages;
  op = comes.op;
  turns = comes.turns;
  sound = comes.sound;
  ends = λ s k w formed. means s k w formed comes.messages (comes.op k).state (comes.ends s k w formed);
}

module _ {Status : Type 0} (old d : DraftValue) (IsEnd : State → Status → List Message → State → Type 0)
    (status : Status) (none : old.writes ≡ []) (quiet : old.messages ≡ []) (comes : ComesTo old d IsEnd status) where
  -- the call's own message goes behind those that it put
  pub promised-comes : (call : Call) (reply : Reply) (own : List Message) (change : ChangeValue) →
      change.writes ≡ d.writes → change.messages ≡ d.messages ++ own → change.reply ≡ reply →
      Held d.view d.writes → Given d.view d.writes →
      ((s : Store) (k : StoreMeaning) → Possible old s k → WellFormed k.state →
      IsEnd k.state status comes.messages (comes.op k).state →
      Step k.state old.ctx call reply (comes.messages ++ own) (comes.op k).state) →
      IsPromised (done_value call old.ctx old.view change)
  promised-comes call reply own change writes messages replied held given steps = subst
      (λ (c : ChangeValue). IsPromised (done_value call old.ctx old.view c))
      (λ i. record { writes = sym writes i; messages = sym sent i; reply = sym replied i })
      (record {
        kept = λ s k fits stands sound formed.
            let w = possible-before old none s k fits stands sound in
            let step = steps s k w formed (comes.ends s k w formed) in record {
              new = comes.op k;
              step = step;
              stands = comes.turns.turns.turns s k fits w.stands (sound, formed);
              sound = comes.sound s k w formed;
              formed =
                  steps_keep_form k.state old.ctx call reply (comes.messages ++ own) (comes.op k).state step formed;
            };
        held = subst (λ v. Held v d.writes) comes.turns.turns.view held;
        given = subst (λ v. Given v d.writes) comes.turns.turns.view given;
      })
    where
      sent : change.messages ≡ comes.messages ++ own
      sent = messages ∙ ap (λ ms. ms ++ own) (comes.turns.sent ∙ ap (λ ms. ms ++ comes.messages) quiet)
