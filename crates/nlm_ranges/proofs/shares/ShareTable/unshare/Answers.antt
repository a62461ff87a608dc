use Rattle.std.proofs.Common.{ap, not, subst, sym, ◌∙◌}
use Rattle.nfs_machine.specs.LockSteps.{share_of}
use Rattle.nfs_machine.specs.Locks.{same_sharer}
use Rattle.nfs_machine.specs.OneFile.{unshared}
use Rattle.nfs_machine.specs.State.{Share}
use Rattle.nlm_ranges.proofs.ShareLemmas.{shares-kept}
use Rattle.nlm_ranges.proofs.shares.ShareTable.unshare.Goals as goal
use Rattle.nlm_ranges.specs.Held.{AreShares}

pub invariant_of-result : goal.invariant_of-result
invariant_of-result c =
    let asked = share_of c.args.share.now in
    subst AreShares (sym (c.in_ok-shares.ensures ∙ ap (unshared asked) c.deref.ensures.value))
    (shares-kept (λ (other : Share). not (same_sharer asked other)) c.self.inside.shares.items c.self.invariant)
