use Rattle.std.proofs.Common.{◌==◌, ◌||◌, ℕ, List, [], ◌∷◌, cond, Some, ap, sym, ◌∙◌}
use Rattle.nfs_objects.specs.declared.modes.Mode.TheVariants.{Shared}
use Rattle.nfs_engine.specs.Holders.{hold_of, holders_value, is_among}
use Rattle.nfs_engine.specs.declared.holders.Holders.{Holders}
use Rattle.nfs_engine.proofs.HolderCountLemmas.{joined_among}
use Rattle.nfs_engine.proofs.holders.Holders.add_beside.Goals as goal

pub returns-in_ok-add-in-Several-clause-ok : goal.returns-in_ok-add-in-Several-clause-ok
returns-in_ok-add-in-Several-clause-ok c = λ j.
    joined_among c.in-Several.sharers c.add-in-Several.new.self c.args.id j (c.in_ok-add-in-Several.ensures.added j)
    ∙ ap (λ (h : Holders). cond (c.args.id == j) (Some Shared) (hold_of (holders_value h) j)) (sym c.in-Several.is)

pub returns-in_ok-add-in-Sharer-clause-ok : goal.returns-in_ok-add-in-Sharer-clause-ok
returns-in_ok-add-in-Sharer-clause-ok c = λ j.
    joined_among (c.in-Sharer.holder ∷ []) c.add.new.self c.args.id j
    (c.in_ok-add-in-Sharer.ensures.added j
    ∙ ap (λ (hs : List ℕ). (c.args.id == j) || is_among hs j) c.in_ok-sharers-in-Sharer.ensures)
    ∙ ap (λ (h : Holders). cond (c.args.id == j) (Some Shared) (hold_of (holders_value h) j)) (sym c.in-Sharer.is)
