use Rattle.std.proofs.Common.{◌++◌, [], ap, append_assoc, drop, sym, ◌∙◌}
use Rattle.std.proofs.lemmas.List.{append-nil, nil_from_length}
use Rattle.nlm_ranges.proofs.BucketPartsLemmas.{placed}
use Rattle.nlm_ranges.proofs.part.with_part.Goals as goal
use Rattle.nlm_ranges.specs.Parts.{part_of}

pub returns-in_default : goal.returns-in_default
returns-in_default c =
    let before = c.split_at.result.0.now in
    let from = c.split_at.result.1.now in
    let anew = part_of c.args.index c.args.files.items in
    placed c.args.index c.args.files.items c.args.parts.now c.place_of.result c.place_of.ensures.place before from
    c.split_at.ensures.front c.split_at.ensures.back [] c.push_part.new.parts.items
    (sym (ap (drop 1) (nil_from_length from c.in_default.ensures.cases)))
    (c.in_ok-push_part.ensures
    ∙ ap (λ ps. ps ++ anew) (c.in_ok-push_parts.ensures ∙ ap (λ ps. ps ++ before) c.in_ok-new.ensures.items)
    ∙ ap (λ ps. before ++ ps) (sym (append-nil anew)))

pub returns : goal.returns
returns c =
    let before = c.split_at.result.0.now in
    let from = c.split_at.result.1.now in
    let anew = part_of c.args.index c.args.files.items in
    let behind = c.in-Some.behind.now in
    placed c.args.index c.args.files.items c.args.parts.now c.place_of.result c.place_of.ensures.place before from
    c.split_at.ensures.front c.split_at.ensures.back behind c.push_parts-2.new.parts.items
    (sym (ap (drop 1) c.in-Some.ensures.cases.0))
    (c.in_ok-push_parts-2.ensures
    ∙ ap (λ ps. ps ++ behind) (c.in_ok-push_part.ensures
    ∙ ap (λ ps. ps ++ anew) (c.in_ok-push_parts.ensures ∙ ap (λ ps. ps ++ before) c.in_ok-new.ensures.items))
    ∙ append_assoc before anew behind)
