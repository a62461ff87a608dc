use Rattle.std.proofs.Common.{ℕ, nat_eq, rules, tests, sym, ◌∙◌}
use Rattle.std.proofs.lemmas.Iterator.{YieldsList-from_slice}
use Rattle.std.proofs.lemmas.Iterator.Search.{position_from_yields_List}
use Rattle.nfs_machine.proofs.PathPiecesLemmas.{pieces-none, pieces-some}
use Rattle.nfs_machine.proofs.paths.split_piece.Goals as goal

pub returns-in-Some-clause-pieces : goal.returns-in-Some-clause-pieces
returns-in-Some-clause-pieces c =
    let found = position_from_yields_List (λ (b : ℕ). nat_eq b 47) _ _ c.position.result c.position.ensures.ran
    (YieldsList-from_slice c.args.text.now cc) (λ x b q k. search (rules, tests)) in
    pieces-some c.args.text.now c.in-Some.at (sym found ∙ c.in-Some.is)

pub returns-in-None-clause-pieces : goal.returns-in-None-clause-pieces
returns-in-None-clause-pieces c =
    let found = position_from_yields_List (λ (b : ℕ). nat_eq b 47) _ _ c.position.result c.position.ensures.ran
    (YieldsList-from_slice c.args.text.now cc) (λ x b q k. search (rules, tests)) in
    pieces-none c.args.text.now (sym found ∙ c.in-None.is)
