use Rattle.std.proofs.lemmas.Option.{IfSome_then}
use Rattle.nlm_ranges.proofs.WideningLemmas.{precedes}
use Rattle.nlm_ranges.proofs.list.LockList.before.Goals as goal

pub returns : goal.returns
returns c =
    IfSome_then c.at.result c.at.ensures (λ x h. precedes c.args.self.now c.args.range.now x.now c.first-first.result
    c.first-first.ensures c.if-first-eq0.false h.0 h.1)
