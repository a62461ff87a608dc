use Rattle.std.proofs.Common.{◌==◌, ap, sym, ◌∙◌, rules, tests}
use Rattle.std.specs.Prelude.{option_copied}
use Rattle.std.proofs.lemmas.Iterator.{YieldsList-from_slice}
use Rattle.std.proofs.lemmas.Iterator.Search.{find_from_yields_List}
use Rattle.nlm_ranges.proofs.BucketPartsLemmas.{taken}
use Rattle.nlm_ranges.proofs.part.files_at.Goals as goal
use Rattle.nlm_ranges.specs.Parts.{PartValue}

pub returns-in-Some : goal.returns-in-Some
returns-in-Some c =
    let found = find_from_yields_List (λ (p : PartValue). p.index == c.args.index) _ _ c.find.result c.find.ensures.ran
    (YieldsList-from_slice c.args.parts.now cc) (λ x b q k. search (rules, tests)) in
    c.files.ensures ∙ ap taken (sym (ap option_copied c.in-Some.is) ∙ found)

pub returns-in-None : goal.returns-in-None
returns-in-None c =
    let found = find_from_yields_List (λ (p : PartValue). p.index == c.args.index) _ _ c.find.result c.find.ensures.ran
    (YieldsList-from_slice c.args.parts.now cc) (λ x b q k. search (rules, tests)) in
    ap taken (sym (ap option_copied c.in-None.is) ∙ found)
