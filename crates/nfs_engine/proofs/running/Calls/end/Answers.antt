use Rattle.std.proofs.Common.{IfSome, List, None, Option, set, sym, subst, arith}
use Rattle.nfs_engine.proofs.OriginsLemmas.{ended_gone, ended_origins, noted_there}
use Rattle.nfs_engine.specs.Running.{AreOrigins, CallsValue, IsInProgress, origin_at}
use Rattle.nfs_engine.specs.declared.running.Running.{Running}
use Rattle.nfs_engine.proofs.running.Calls.end.Goals as goal

pub forget-requires : goal.forget-requires
forget-requires c =
    let removed = c.in-Some-try_remove in
    noted_there c.self.inside.living.slots c.args.key removed.field-0 (sym removed.ensures.value)
    c.self.inside.origins c.self.invariant

pub invariant_of-self-2 : goal.invariant_of-self-2
invariant_of-self-2 c =
    let living = c.self.inside.living.slots in
    let removed = c.in-Some-try_remove in
    subst (λ (l : List (Option Running)). AreOrigins c.forget.new.origins l) (sym removed.ensures.slots)
    (ended_origins living c.args.key removed.field-0 (sym removed.ensures.value) c.self.inside.origins
    c.forget.new.origins c.forget.ensures c.self.invariant)

pub returns-clause-gone : goal.returns-clause-gone
returns-clause-gone c =
    let living = c.self.inside.living.slots in
    let removed = c.in-Some-try_remove in
    subst (λ (l : List (Option Running)). IfSome (origin_at c.args.self.now.living c.args.key c.args.id)
    (λ o. IsInProgress l o → ⊥)) (sym removed.ensures.slots)
    (subst (λ (v : CallsValue). IfSome (origin_at v.living c.args.key c.args.id)
    (λ o. IsInProgress (set living c.args.key None) o → ⊥)) c.self.view_is
    (ended_gone living c.args.key c.args.id c.in-Some.running.now (sym c.in-Some.ensures) (omega arith)
    c.self.inside.origins c.self.invariant))
