use Rattle.std.proofs.Common.{ap, not, subst, sym, ◌∙◌}
use Rattle.nfs_machine.specs.Bytes.{same_bytes}
use Rattle.nfs_machine.specs.OneFile.{shares_without}
use Rattle.nfs_machine.specs.State.{Share}
use Rattle.nlm_ranges.proofs.ShareLemmas.{shares-kept}
use Rattle.nlm_ranges.proofs.shares.ShareTable.free.Goals as goal
use Rattle.nlm_ranges.specs.Held.{AreShares}

pub invariant_of-result : goal.invariant_of-result
invariant_of-result c =
    let name = c.args.caller_name.now in
    subst AreShares (sym (c.in_ok-shares.ensures ∙ ap (shares_without name) c.deref.ensures.value))
    (shares-kept (λ (s : Share). not (same_bytes s.caller_name name)) c.self.inside.shares.items c.self.invariant)
