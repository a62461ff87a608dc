use Rattle.std.proofs.Common.{subst, sym}
use Rattle.nlm_ranges.proofs.ShareLemmas.{no-shares}
use Rattle.nlm_ranges.proofs.shares.ShareTable.new.Goals as goal
use Rattle.nlm_ranges.specs.Held.{AreShares}

pub invariant_of-result : goal.invariant_of-result
invariant_of-result c = subst AreShares (sym c.new.ensures.items) no-shares
