-- The time of change of what lives under a handle never falls along a chain of steps.
use Rattle.std.proofs.Common.{◌≡◌, ℕ, true, List, [], ◌∷◌, Some, inl, inr, sym, ◌∙◌, ap, subst}
use Rattle.std.specs.FinMap.{get}
use Rattle.nfs_machine.specs.Chains.{Chain, Transition}
use Rattle.nfs_machine.specs.State.{Living, State}
use Rattle.nfs_machine.specs.TimeLaws.{ChainsNeverFall}
use Rattle.nfs_machine.specs.Times.{time_of}
use Rattle.nfs_machine.proofs.StepKeepsLemmas.{never_given_again, steps_give_once, steps_touch_once}
use Rattle.nfs_machine.proofs.ChangeTimeRisesLemmas.{Later, later-later, later-not_earlier, touched-later}

later-chain : (first last : State) (steps : List Transition) (number : ℕ) (was is : Living)
    → Chain first steps last → first.spent number was.generation ≡ true →
    get first.objects number ≡ Some was → get last.objects number ≡ Some is →
    is.generation ≡ was.generation
    → Later was.changed is.changed
later-chain first last [] number was is chain spent at there same =
    let both : Some is ≡ Some was = sym there ∙ ap (λ (m : State). get m.objects number) chain ∙ at in
    let stays : is ≡ was = cc in
    inr (ap (λ (o : Living). o.changed) stays)
later-chain first last (t ∷ steps) number was is (mid, step, rest) spent at there same =
    let gives = steps_give_once first t.ctx t.call t.reply t.messages mid step in
    let given : mid.spent number was.generation ≡ true = gives.kept number was.generation spent in
    -- what lives at the end lived between
    let between = never_given_again mid last steps number was.generation rest given
    (record { object = is; lives = there; generation_is = same }) in
    let o : Living = between.object in
    let more : Later o.changed is.changed =
    later-chain mid last steps number o is rest
    (subst (λ g. mid.spent number g ≡ true) (sym between.generation_is) given) between.lives there
    (same ∙ sym between.generation_is) in
    elim (steps_touch_once first t.ctx t.call t.reply t.messages mid step number was o at between.lives) [
      | inl stays ↦ subst (λ (x : Living). Later x.changed is.changed) stays more
      | inr touched ↦
          later-later was.changed o.changed is.changed
          (subst (Later was.changed) (sym touched) (touched-later was.changed (time_of t.ctx.moment))) more
    ]

pub chains_never_fall : ChainsNeverFall
chains_never_fall first last steps number was is chain spent at there same =
    later-not_earlier was.changed is.changed (later-chain first last steps number was is chain spent at there same)
