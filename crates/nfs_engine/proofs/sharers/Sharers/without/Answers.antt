use Rattle.std.proofs.Common.{◌≡◌, ◌≢◌, ◌==◌, not, rules, subst, sym, ◌∙◌, ap}
use Rattle.std.proofs.lemmas.Fn.{filter_same}
use Rattle.std.proofs.lemmas.List.Kept.{AllPairs-filter}
use Rattle.std.specs.List.{AllPairs, filter}
use Rattle.nfs_engine.proofs.HolderCountLemmas.{none_left, some_left}
use Rattle.nfs_engine.proofs.sharers.Sharers.without.Goals as goal

pub returns-then-is_empty : goal.returns-then-is_empty
returns-then-is_empty c =
    ap (filter (λ h. not (h == c.args.id))) (sym c.self.view_is)
    ∙ sym (filter_same _ _ _ (λ x b f' k. search rules) _ _ c.retain.ensures.filtered)
    ∙ none_left c.retain.new.self.items c.is_empty.result
    (c.is_empty.ensures ∙ ap (λ n. n == 0) c.retain.new.self.ok.0) c.if-is_empty.true

pub invariant_of-result : goal.invariant_of-result
invariant_of-result c =
    let left : c.retain.new.self.items ≡ filter (λ h. not (h == c.args.id)) c.self.inside.ids.items =
    filter_same _ _ _ (λ x b f' k. search rules) _ _ c.retain.ensures.filtered in (
      subst (AllPairs (λ x y. x ≢ y)) (sym left)
          (AllPairs-filter (λ x y. x ≢ y) (λ h. not (h == c.args.id)) c.self.inside.ids.items c.self.invariant.0),
      some_left c.retain.new.self.items c.is_empty.result
          (c.is_empty.ensures ∙ ap (λ n. n == 0) c.retain.new.self.ok.0) c.if-is_empty.false,
    )

pub returns : goal.returns
returns c =
    filter_same _ _ _ (λ x b f' k. search rules) _ _ c.retain.ensures.filtered
    ∙ ap (filter (λ h. not (h == c.args.id))) c.self.view_is
