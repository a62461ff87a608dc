use Rattle.std.proofs.Common.{◌||◌, ◌==◌, ℕ, List, sym, ◌∙◌, ap}
use Rattle.std.specs.List.{list_any}
use Rattle.nfs_engine.specs.Holders.{is_among}
use Rattle.nfs_engine.proofs.HolderCountLemmas.{found_among, known_among, pushed_among}
use Rattle.nfs_engine.proofs.sharers.Sharers.add.Goals as goal

pub returns-then-contains-clause-added : goal.returns-then-contains-clause-added
returns-then-contains-clause-added c = λ j. known_among c.args.self.now c.args.id j
    (sym (found_among c.args.self.now c.args.id)
    ∙ ap (list_any (λ h. h == c.args.id)) (sym (c.deref.ensures.value ∙ c.self.view_is))
    ∙ sym c.contains.ensures.value ∙ c.if-contains.true)

pub returns-clause-added : goal.returns-clause-added
returns-clause-added c = λ j.
    ap (λ (hs : List ℕ). is_among hs j) c.in_ok-push.ensures.items
    ∙ pushed_among c.self.inside.ids.items c.args.id j
    ∙ ap (λ (hs : List ℕ). (c.args.id == j) || is_among hs j) c.self.view_is
