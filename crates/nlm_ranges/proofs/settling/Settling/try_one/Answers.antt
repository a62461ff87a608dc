use Rattle.std.proofs.Common.{subst}
use Rattle.std.specs.Arc.{arc_value}
use Rattle.nfs_machine.specs.OneFile.{IsHeldUp}
use Rattle.nlm_ranges.proofs.GrantingLemmas.{tries-granted}
use Rattle.nlm_ranges.proofs.settling.Settling.try_one.Goals as goal

pub returns-then-is_free : goal.returns-then-is_free
returns-then-is_free c =
    let old = c.args.self.now in
    let request = arc_value c.args.request.now in
    tries-granted old c.grant.new.self request c.in_ok-anew.anew c.requires
    (subst (λ ls. IsHeldUp ls request → ⊥) c.deref-2.ensures
    (subst (λ r. IsHeldUp c.deref-2.result.now r → ⊥) c.deref.ensures
    (c.is_free.ensures.free c.if-is_free.true))) c.in_ok-anew.ensures
