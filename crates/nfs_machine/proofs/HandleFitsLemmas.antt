-- The number and the generation of what lives fit the bytes of its handle.
use Rattle.std.proofs.Common.{◌≡◌, ◌<◌, ◌^◌, length, Some, None, inl, inr, sym, ◌∙◌, ap, subst, arith}
use Rattle.std.specs.FinMap.{get}
use Rattle.nfs_machine.specs.Laws.{NumbersFit, OpeningNumbersFit, ChainsKeepNumbers, StepsKeepNumbers}
use Rattle.nfs_machine.specs.Opening.{opening, time_of}
use Rattle.nfs_machine.specs.State.{Living}
use Rattle.nfs_machine.proofs.StepKeepsLemmas.{chain-keeps, steps_give_once}
use Rattle.nfs_machine.proofs.OpeningStateLemmas.{le_or, only_roots, root_none}

-- the roots have the numbers of their exports, and generation 1
pub opening_numbers_fit : OpeningNumbersFit
opening_numbers_fit exports moment few number generation l =
    elim (le_or number (length exports)) [
      | inl within ↦ (omega (arith, within, few), subst (λ g. g < 2 ^ 64) first (omega arith))
      | inr above ↦ (let none : get (opening exports moment).objects number ≡ None = root_none (time_of moment) exports
          1 number (inr (omega (arith, above))) in let both : Some l.object ≡ None = sym l.lives ∙ none in cc)
    ]
  where
    first : 1 ≡ generation
    first = ap (λ (o : Living). o.generation) (only_roots exports moment number l.object l.lives).0 ∙ l.generation_is

pub steps_keep_numbers : StepsKeepNumbers
steps_keep_numbers old ctx call reply messages new step fit number generation l =
    elim ((steps_give_once old ctx call reply messages new step).handles number generation l) [
      | inl before ↦ fit number generation before
      | inr given ↦ (given.2, given.3)
    ]

pub chains_keep_numbers : ChainsKeepNumbers
chains_keep_numbers = chain-keeps NumbersFit steps_keep_numbers
