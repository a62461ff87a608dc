use Rattle.std.proofs.Common.{rules, arith, ◌-◌}
use Rattle.nfs_objects.proofs.BitSetLemmas.{end-found}
use Rattle.nfs_objects.proofs.bits.Bits.end.Goals as goal

pub returns-then-word-ne0-clause-end : goal.returns-then-word-ne0-clause-end
returns-then-word-ne0-clause-end c =
    let place = c.loop-place.place - 1 in
    (end-found c.args.self.words place (omega (arith, c.loop-place.auto.place, c.loop-place-test.true))
    (λ k behind. c.loop-place.invariant k (omega (arith, behind))) c.if-word-ne0.true (search rules) _
    (omega (arith, c.from.ensures))).1
