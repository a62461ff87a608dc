use Rattle.std.proofs.Common.{◌<◌, ◌^◌, arith, subst, sym}
use Rattle.nlm_ranges.proofs.WideningLemmas.{ends-itself, ends-more}
use Rattle.nlm_ranges.proofs.locks.last_with.Goals as goal
use Rattle.nlm_ranges.specs.Held.{EndsWith}

pub returns-in-Some : goal.returns-in-Some
returns-in-Some c =
    let same = c.last.ensures in
    let fits : c.in-Some.lock.now.last < 2 ^ 64 = omega (arith, same) in
    subst (EndsWith c.args.list.now c.args.range.now) (sym same)
    (ends-more c.args.list.now c.args.range.now c.in-Some.lock.now c.in-Some.ensures fits)

pub returns-in-None : goal.returns-in-None
returns-in-None c =
    let same = c.last-in-None.ensures.last in
    let fits : c.args.range.now.last < 2 ^ 64 = omega (arith, same) in
    subst (EndsWith c.args.list.now c.args.range.now) (sym same)
    (ends-itself c.args.list.now c.args.range.now fits)
