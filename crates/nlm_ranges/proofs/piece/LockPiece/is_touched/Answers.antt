use Rattle.std.proofs.Common.{◌≡◌, ◌&&◌, ap, false, nat_le, rules, sym, ◌∙◌}
use Rattle.std.specs.Arc.{arc_value}
use Rattle.std.specs.List.{list_any}
use Rattle.nlm_ranges.proofs.PieceLemmas.{none-touched}
use Rattle.nlm_ranges.proofs.piece.LockPiece.is_touched.Goals as goal
use Rattle.nlm_ranges.specs.Cutting.{is_touched}

pub returns-then-not-meets : goal.returns-then-not-meets
returns-then-not-meets c =
    let range = c.args.range.now in
    let unset : c.meets.result ≡ false = search rules in
    let apart : (nat_le c.self.inside.first range.last && nat_le range.first c.self.inside.last) ≡ false =
    sym c.meets.ensures ∙ unset in
    sym (ap (list_any (is_touched range)) (sym c.self.view_is)
    ∙ none-touched range c.self.inside.first c.self.inside.last apart
    (arc_value c.self.inside.locks).items c.self.invariant)
