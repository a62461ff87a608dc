use Rattle.std.proofs.Common.{◌<◌, Some, ap, arith, length, sym, ◌∙◌}
use Rattle.nlm_ranges.proofs.RequestListLemmas.{earliest-here}
use Rattle.nlm_ranges.proofs.batch.earliest.Goals as goal
use Rattle.nlm_ranges.specs.Requests.{goes}

pub returns-then-is_one_of-clause-some : goal.returns-then-is_one_of-clause-some
returns-then-is_one_of-clause-some c =
    let within : c.loop-listed.listed-index < length c.args.requests.now = omega arith in
    earliest-here c.args.requests.now c.loop-listed.listed-index c.listed-item.result within c.listed-item.is
    (goes c.args.going) c.loop-listed.invariant (sym c.is_one_of.ensures ∙ c.if-is_one_of.true)
    ∙ ap Some (sym c.shared.ensures)
