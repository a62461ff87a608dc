use Rattle.std.proofs.Common.{ap, ◌∙◌}
use Rattle.nlm_ranges.proofs.RequestListLemmas.{copies-same}
use Rattle.nlm_ranges.proofs.requests.RequestListClone.clone.Goals as goal
use Rattle.nlm_ranges.specs.Cutting.{joined}

pub returns : goal.returns
returns c = record {
  cases = ap joined (copies-same c.self.inside.batches.items c.in_ok-clone.field-0.items c.in_ok-clone.ensures.cases.0)
      ∙ c.self.view_is;
}
