-- What a draft came to keeps the promise where it is a step, and what is kept is sound: that the state stays well
-- formed is a law of the machine.
use Rattle.std.proofs.Common.{◌≡◌, [], Result, Ok, Err, refl, sym, ◌∙◌, subst}
use Rattle.nfs_wire.specs.declared.status.NfsStatus.{NfsStatus}
use Rattle.nfs_machine.proofs.StepKeepsLemmas.{steps_keep_form}
use Rattle.nfs_machine.specs.Answers.{answer_of, state_after}
use Rattle.nfs_machine.specs.State.{State}
use Rattle.nfs_machine.specs.Step.{Step}
use Rattle.nfs_machine.specs.WellFormed.{WellFormed}
use Rattle.nfs_machine.specs.declared.calls.Call.{Call}
use Rattle.nfs_machine.specs.declared.calls.Reply.{Reply}
use Rattle.nfs_objects.specs.Drafts.{MayChange}
use Rattle.nfs_objects.specs.Fits.{Fits}
use Rattle.nfs_objects.specs.Knows.{Does, Turns, Possible, ending}
use Rattle.nfs_objects.specs.Modes.{held_mode}
use Rattle.nfs_objects.specs.Promise.{Given, Held, IsPromised}
use Rattle.nfs_objects.specs.Sound.{Sound}
use Rattle.nfs_objects.specs.Stands.{StoreMeaning, Represents}
use Rattle.nfs_objects.specs.Store.{Store, with_writes}
use Rattle.nfs_objects.specs.Values.{DraftValue, done_value}
use Rattle.nfs_objects.specs.declared.address.Addr.{Addr}
use Rattle.nfs_objects.specs.declared.modes.Mode.TheVariants.{Exclusive}

-- nothing written
pub turns-none : (d : DraftValue) → Turns d d (λ k. k)
turns-none d = record { ctx = refl; view = refl; modes = refl; messages = refl; turns = λ s k fits stands. stands }

-- one change after another
pub turns-both : (a b c : DraftValue) (f g : StoreMeaning → StoreMeaning) → Turns a b f → Turns b c g →
    Turns a c (λ k. g (f k))
turns-both a b c f g x y = record {
  ctx = y.ctx ∙ x.ctx;
  view = y.view ∙ x.view;
  modes = y.modes ∙ x.modes;
  messages = y.messages ∙ x.messages;
  turns = λ s k fits stands. y.turns s (f k) (subst (λ v. Fits v s) (sym x.view) fits) (x.turns s k fits stands);
}

-- what may be changed may be changed still
pub turned-change : (old new : DraftValue) (op : StoreMeaning → StoreMeaning) → Turns old new op → (a : Addr) →
    MayChange old a → MayChange new a
turned-change old new op turns a may =
    subst (λ modes. held_mode modes new.view a ≡ Exclusive) (sym turns.modes)
    (subst (λ view. held_mode old.modes view a ≡ Exclusive) (sym turns.view) may)

-- the store that was possible before is so afterwards
pub possible-after : (old new : DraftValue) (op : StoreMeaning → StoreMeaning) → Turns old new op
    → (s : Store) (k : StoreMeaning) →
    Possible old s k → Sound (op k) → Possible new s (op k)
possible-after old new op turns s k w sound = record {
  fits = subst (λ v. Fits v s) (sym turns.view) w.fits;
  stands = turns.turns s k w.fits w.stands;
  sound = sound;
}

-- a refusal changes nothing
pub does-nothing : {A : Type 0} (d : DraftValue) (IsEnd : State → Result (A × State) NfsStatus → Type 0)
    (e : NfsStatus) → ((s : Store) (k : StoreMeaning) → Possible d s k → IsEnd k.state (Err e)) → Does d d IsEnd (Err e)
does-nothing d IsEnd e ends = record {
  op = λ k. k;
  turns = turns-none d;
  sound = λ s k w formed. w.sound;
  ends = λ s k w formed. ends s k w;
  stays = λ k. refl;
}

-- an end of one kind that is one of another
pub does-as : {A : Type 0} (old new : DraftValue) (P Q : State → Result (A × State) NfsStatus → Type 0)
    (result : Result A NfsStatus) → ((s : Store) (k : StoreMeaning) → Possible old s k →
    (end : Result (A × State) NfsStatus) → P k.state end → Q k.state end) → Does old new P result
    → Does old new Q result
does-as old new P Q result means does = record {
  op = does.op;
  turns = does.turns;
  sound = does.sound;
  ends = λ s k w formed. means s k w _ (does.ends s k w formed);
  stays = does.stays;
}

module _ (old d : DraftValue) (op : StoreMeaning → StoreMeaning) (none : old.writes ≡ []) (quiet : old.messages ≡ [])
    (turns : Turns old d op) where
  possible-before : (s : Store) (k : StoreMeaning) → Fits old.view s → Represents s k → Sound k → Possible old s k
  possible-before s k fits stands sound = record {
    fits = fits;
    stands =
        subst (λ ws. Represents (with_writes s ws) k) (sym none) stands;
    sound = sound;
  }

  -- in each sound state what is kept stays sound, and then the reply is a step
  abbrev pub Steps : Call → Reply → Type 0
  Steps call reply = (s : Store) (k : StoreMeaning) → Possible old s k → WellFormed k.state
      → Sound (op k) × (Possible d s (op k) → Step k.state old.ctx call reply [] (op k).state)

  pub promised : (call : Call) (reply : Reply) → Held d.view d.writes → Given d.view d.writes → Steps call reply
      →
      IsPromised
      (done_value call old.ctx old.view (record { writes = d.writes; messages = d.messages; reply = reply }))
  promised call reply held given steps = record {
    kept = λ s k fits stands sound formed.
        let w = possible-before s k fits stands sound in
        let x = steps s k w formed in
        let step : Step k.state old.ctx call reply d.messages (op k).state =
        subst (λ ms. Step k.state old.ctx call reply ms (op k).state) (sym (turns.messages ∙ quiet))
        (x.1 (possible-after old d op turns s k w x.0)) in
        record {
          new = op k;
          step = step;
          stands = turns.turns s k fits w.stands;
          sound = x.0;
          formed = steps_keep_form k.state old.ctx call reply d.messages (op k).state step formed;
        };
    held = subst (λ v. Held v d.writes) turns.view held;
    given = subst (λ v. Given v d.writes) turns.view given;
  }

-- a call that changes nothing
pub promised-unchanged : (d : DraftValue) → d.writes ≡ [] → d.messages ≡ [] →
    (call : Call) (reply : Reply) → Held d.view d.writes → Given d.view d.writes
    → ((s : Store) (k : StoreMeaning) → Possible d s k → WellFormed k.state → Step k.state d.ctx call reply [] k.state)
    → IsPromised (done_value call d.ctx d.view (record { writes = d.writes; messages = d.messages; reply = reply }))
promised-unchanged d none quiet call reply held given step =
    promised d d (λ k. k) none quiet (turns-none d) call reply held given
    (λ s k w formed. (w.sound, λ after. step s k w formed))

-- ---- a call whose reply is made of its result and of the state after it
pub answer-ending : {A : Type 0} (r : Result A NfsStatus) (m : State) → answer_of (ending r m) ≡ r
answer-ending (Ok x) m = refl
answer-ending (Err e) m = refl

module _ {A : Type 0} (old d : DraftValue) (none : old.writes ≡ []) (quiet : old.messages ≡ [])
    (IsEnd : State → Result (A × State) NfsStatus → Type 0) (result : Result A NfsStatus)
    (does : Does old d IsEnd result) where
  -- the reply is a step where, for each end of the machine, what is shown after it makes it one
  pub promised-does : (call : Call) (reply : Reply) → Held d.view d.writes → Given d.view d.writes
      → ((s : Store) (k : StoreMeaning) (new : State) → Possible old s k → Possible d s (does.op k) →
      new ≡ (does.op k).state → new ≡ state_after k.state (ending result (does.op k).state)
      → IsEnd k.state (ending result (does.op k).state) → Step k.state old.ctx call reply [] new)
      →
      IsPromised
      (done_value call old.ctx old.view (record { writes = d.writes; messages = d.messages; reply = reply }))
  promised-does call reply held given step =
      promised old d does.op none quiet does.turns call reply held given (λ s k w formed. (
        does.sound s k w formed,
        λ after. step s k (does.op k).state w after refl (does.stays k)
            (does.ends s k w formed),
      ))
