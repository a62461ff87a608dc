use Rattle.std.proofs.Common.{◌≡◌, [], ◌∷◌, ◌++◌, ap, subst, sym, ◌∙◌}
use Rattle.nfs_machine.specs.LockSteps.{share_of}
use Rattle.nfs_machine.specs.OneFile.{is_denied, shared, unshared}
use Rattle.nlm_ranges.proofs.ShareLemmas.{shares-more}
use Rattle.nlm_ranges.proofs.shares.ShareTable.share.Goals as goal
use Rattle.nlm_ranges.specs.Held.{AreShares}

pub invariant_of-result : goal.invariant_of-result
invariant_of-result c =
    let asked = share_of c.args.share.now in
    let others = c.in_ok-shares.ensures ∙ ap (unshared asked) c.deref.ensures.value in
    let all : c.push.new.self.items ≡ shared asked c.self.inside.shares.items =
    c.in_ok-push.ensures.items ∙ (λ i. others i ++ c.in_ok-of.ensures i ∷ []) in
    subst AreShares (sym all)
    (shares-more asked c.self.inside.shares.items (ap (is_denied asked) c.self.view_is ∙ c.requires)
    c.self.invariant)
