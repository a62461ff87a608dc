-- Chains of steps of any calls: the laws of all that may happen to a server are stated over them.
use Rattle.std.specs.Prelude.{◌≡◌, List, [], ◌∷◌}
use Rattle.side_wire.specs.declared.message.Message.{Message}
use Rattle.nfs_machine.specs.Run.{Asks, Record, Run, Setting}
use Rattle.nfs_machine.specs.State.{State}
use Rattle.nfs_machine.specs.Step.{Step}
use Rattle.nfs_machine.specs.declared.calls.Call.{Call}
use Rattle.nfs_machine.specs.declared.calls.Reply.{Reply}
use Rattle.nfs_machine.specs.declared.context.Ctx.{Ctx}

-- a call under its context, with what it was answered and the messages that it put
pub record Transition : Type 0 where
  pub ctx : Ctx
  pub call : Call
  pub reply : Reply
  pub messages : List Message

-- One after the other, each a step from the state that the one before it left. The calls are any of the three
-- programs, and a run is such a chain (RunsAreChains); but the calls of a run came in by arrivals, so they are of
-- procedures that are served, and its contexts are those of one setting.
abbrev pub Chain : State → List Transition → State → Type 0
Chain old [] new = new ≡ old
Chain old (t ∷ steps) new = (mid : State) × Step old t.ctx t.call t.reply t.messages mid × Chain mid steps new

-- the arrivals of the records ask these calls, which were answered so
abbrev pub AreAsked : Setting → List Record → List Transition → Type 0
AreAsked setting [] [] = Unit {0}
AreAsked setting [] (t ∷ steps) = ⊥
AreAsked setting (r ∷ records) [] = ⊥
AreAsked setting (r ∷ records) (t ∷ steps) = Asks setting r.arrival t.ctx t.call × (t.reply ≡ r.reply) ×
    (t.messages ≡ r.messages) × AreAsked setting records steps

-- so what is true of each chain is true of each run
abbrev pub RunsAreChains : Type 0
RunsAreChains = (setting : Setting) (first last : State) (records : List Record) → Run setting first records last →
    (steps : List Transition) × Chain first steps last × AreAsked setting records steps
