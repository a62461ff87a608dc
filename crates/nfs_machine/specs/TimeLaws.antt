-- Laws of the times of changes (RFC 1813, 2.5: ctime).
use Rattle.std.specs.Prelude.{◌≡◌, ℕ, ◌<◌, true, false, List, Some, ◌⊎◌}
use Rattle.std.specs.FinMap.{get}
use Rattle.nfs_wire.specs.declared.attributes.Time.{Time}
use Rattle.side_wire.specs.declared.message.Message.{Message}
use Rattle.nfs_machine.specs.Attributes.{attributes_of}
use Rattle.nfs_machine.specs.Chains.{Chain, Transition}
use Rattle.nfs_machine.specs.State.{Living, State}
use Rattle.nfs_machine.specs.Step.{Step}
use Rattle.nfs_machine.specs.Times.{is_earlier, time_of, touch}
use Rattle.nfs_machine.specs.WellFormed.{WellFormed}
use Rattle.nfs_machine.specs.declared.calls.Call.{Call}
use Rattle.nfs_machine.specs.declared.calls.Reply.{Reply}
use Rattle.nfs_machine.specs.declared.context.Ctx.{Ctx}

-- whatever the clock says, the time of a change never falls
abbrev pub TimesNeverFall : Type 0
TimesNeverFall = (changed now : Time) → is_earlier (touch changed now) changed ≡ false

-- and it rises, but at the greatest time
abbrev pub TimesRise : Type 0
TimesRise = (changed now : Time) → (changed.seconds < 4294967295) ⊎
    (changed.nanoseconds < 999999999) → is_earlier changed (touch changed now) ≡ true

-- what lives at a number before and after is the same object as it was, and shows the same attributes, its links among
-- them, or it was changed at this time, and counts as changed once
abbrev pub ShowsChanges : Time → State → State → Type 0
ShowsChanges now old new = (number : ℕ) (was is : Living) → get old.objects number ≡ Some was →
    get new.objects number ≡ Some is →
    ((is ≡ was) × (attributes_of new number is ≡ attributes_of old number was)) ⊎
    (is.changed ≡ touch was.changed now)

-- each step does so, at the moment of its call
abbrev pub StepsShowChanges : Type 0
StepsShowChanges = (old : State) (ctx : Ctx) (call : Call) (reply : Reply) (messages : List Message) (new : State) →
    WellFormed old → Step old ctx call reply messages new → ShowsChanges (time_of ctx.moment) old new

-- in any state, what lives at a number before and after is as it was, or was changed at this time
abbrev pub TouchesOnce : Time → State → State → Type 0
TouchesOnce now old new = (number : ℕ) (was is : Living) → get old.objects number ≡ Some was →
    get new.objects number ≡ Some is → (is ≡ was) ⊎ (is.changed ≡ touch was.changed now)

-- so it is over each step
abbrev pub StepsTouchOnce : Type 0
StepsTouchOnce = (old : State) (ctx : Ctx) (call : Call) (reply : Reply) (messages : List Message) (new : State) →
    Step old ctx call reply messages new → TouchesOnce (time_of ctx.moment) old new

-- what lives under a handle when a chain of steps begins and when it ends was not changed later then than it is now
abbrev pub ChainsNeverFall : Type 0
ChainsNeverFall = (first last : State) (steps : List Transition) (number : ℕ) (was is : Living)
    → Chain first steps last → first.spent number was.generation ≡ true →
    get first.objects number ≡ Some was → get last.objects number ≡ Some is →
    is.generation ≡ was.generation
    → is_earlier is.changed was.changed ≡ false
