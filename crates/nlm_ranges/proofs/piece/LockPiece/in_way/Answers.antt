use Rattle.std.proofs.Common.{◌≡◌, ◌&&◌, Some, ap, false, nat_le, rules, sym, ◌∙◌}
use Rattle.std.specs.Arc.{arc_value}
use Rattle.std.specs.List.{list_any}
use Rattle.nfs_machine.specs.LockLaws.{stands_in_way}
use Rattle.nlm_ranges.proofs.PieceLemmas.{none-stands}
use Rattle.nlm_ranges.proofs.piece.LockPiece.in_way.Goals as goal

pub returns-then-not-meets-clause-none : goal.returns-then-not-meets-clause-none
returns-then-not-meets-clause-none c =
    let range = c.args.range.now in
    let unset : c.meets.result ≡ false = search rules in
    let apart : (nat_le c.self.inside.first range.last && nat_le range.first c.self.inside.last) ≡ false =
    sym c.meets.ensures ∙ unset in
    ap (list_any (stands_in_way range (Some c.args.exclusive))) (sym c.self.view_is)
    ∙ none-stands range c.self.inside.first c.self.inside.last apart c.args.exclusive
    (arc_value c.self.inside.locks).items c.self.invariant
