use Rattle.std.proofs.lemmas.Option.{IfSome_then}
use Rattle.nlm_ranges.proofs.WideningLemmas.{goes-on}
use Rattle.nlm_ranges.proofs.list.LockList.behind.Goals as goal

pub returns : goal.returns
returns c =
    IfSome_then c.at.result c.at.ensures (λ x h. goes-on c.args.self.now c.args.range.now x.now c.last-last.result
    c.last-last.ensures.last h.0 h.1)
