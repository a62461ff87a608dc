use Rattle.std.proofs.Common.{List, not, rules, sym, subst}
use Rattle.std.proofs.lemmas.Fn.{filter_same}
use Rattle.nfs_replies.specs.Origins.{Removes, same_origin}
use Rattle.nfs_replies.specs.declared.origins.Origin.{Origin}
use Rattle.nfs_replies.proofs.OriginLemmas.{others-left}
use Rattle.nfs_replies.proofs.origins.remove_other.Goals as goal

pub returns : goal.returns
returns c =
    let o = c.args.origin.now in
    let others = c.args.others.now.items in
    subst (λ (left : List Origin). Removes o others left)
    (sym (filter_same _ (λ (x : Origin). not (same_origin x o)) _ (λ x b f' k. search rules) _ _
    c.retain.ensures.filtered))
    (others-left o others)
