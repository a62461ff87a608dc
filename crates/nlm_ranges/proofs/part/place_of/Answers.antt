use Rattle.std.proofs.Common.{◌==◌, ap, ◌∙◌, length, rules, tests}
use Rattle.std.proofs.lemmas.Iterator.{YieldsList-from_slice}
use Rattle.std.proofs.lemmas.Iterator.Search.{position_from_yields_List}
use Rattle.std.specs.Option.{unwrap_or}
use Rattle.nlm_ranges.proofs.BucketPartsLemmas.{place-of}
use Rattle.nlm_ranges.proofs.part.place_of.Goals as goal
use Rattle.nlm_ranges.specs.Parts.{PartValue}

pub returns-clause-place : goal.returns-clause-place
returns-clause-place c =
    let found = position_from_yields_List (λ (p : PartValue). p.index == c.args.index) _ _ c.position.result
    c.position.ensures.ran (YieldsList-from_slice c.args.parts.now cc) (λ x b q k. search (rules, tests)) in
    c.unwrap_or.ensures ∙ ap (λ o. unwrap_or o (length c.args.parts.now)) found
    ∙ place-of (λ (p : PartValue). p.index == c.args.index) c.args.parts.now
