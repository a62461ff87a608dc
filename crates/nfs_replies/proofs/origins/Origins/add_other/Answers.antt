use Rattle.std.proofs.Common.{◌≡◌, Bool, true, false, ◌||◌, [], ◌∷◌, ◌++◌, refl, sym, ap, ◌∙◌}
use Rattle.std.proofs.lemmas.List.Folds.{list_any-append}
use Rattle.nfs_replies.specs.Entries.{origins_in}
use Rattle.nfs_replies.specs.Origins.{is_among, same_origin}
use Rattle.nfs_replies.proofs.OriginLemmas.{same-turned}
use Rattle.nfs_replies.proofs.origins.Origins.add_other.Goals as goal

last : (a b s : Bool) → (a || (b || (s || false))) ≡ (s || (a || b))
last true b true = refl
last true b false = refl
last false true true = refl
last false true false = refl
last false false true = refl
last false false false = refl

pub returns-clause-added : goal.returns-clause-added
returns-clause-added c p =
    let fields = c.self.inside in
    let o = c.args.origin in
    let firsts = origins_in fields.first.entries in
    rw (← c.self.view_is) (ap (λ others. is_among (firsts ++ others) p) c.in_ok-push.ensures.items
    ∙ list_any-append (same_origin p) firsts (fields.others.items ++ o ∷ [])
    ∙ ap (λ b. is_among firsts p || b) (list_any-append (same_origin p) fields.others.items (o ∷ []))
    ∙ last (is_among firsts p) (is_among fields.others.items p) (same_origin p o)
    ∙ ap (λ b. b || (is_among firsts p || is_among fields.others.items p)) (same-turned p o)
    ∙ ap (λ b. same_origin o p || b) (sym (list_any-append (same_origin p) firsts fields.others.items)))
