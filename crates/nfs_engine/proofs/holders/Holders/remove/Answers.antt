use Rattle.std.proofs.Common.{ℕ, ◌==◌, List, cond, None, ap, ◌∙◌}
use Rattle.nfs_engine.specs.Holders.{hold_in, hold_of, holders_value}
use Rattle.nfs_engine.specs.declared.holders.Holders.{Holders}
use Rattle.nfs_engine.proofs.HolderCountLemmas.{removed_among}
use Rattle.nfs_engine.proofs.holders.Holders.remove.Goals as goal

pub returns-in-Some : goal.returns-in-Some
returns-in-Some c = λ j.
    ap (λ (hs : List ℕ). hold_in None hs j) c.in-Some.ensures
    ∙ removed_among c.in-Several.sharers c.args.id j
    ∙ ap (λ (h : Holders). cond (c.args.id == j) None (hold_of (holders_value h) j)) c.in-Several.ensures.value
