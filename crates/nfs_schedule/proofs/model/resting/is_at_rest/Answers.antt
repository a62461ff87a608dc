use Rattle.std.proofs.Common.{sym, ◌∙◌, subst}
use Rattle.std.specs.Cmp.{unsigned_Decides}
use Rattle.nfs_engine.specs.Engine.{CountsLocked}
use Rattle.nfs_schedule.proofs.AtRestLemmas.{rest_by_counts}
use Rattle.nfs_schedule.proofs.model.resting.is_at_rest.Goals as goal

pub returns-then-living-eq0-clause-rest : goal.returns-then-living-eq0-clause-rest
returns-then-living-eq0-clause-rest c =
    λ none. rest_by_counts c.args.engine.now (sym c.living-living.ensures ∙ c.if-living-eq0.true)
    (subst (λ n. CountsLocked c.args.engine.now.shards n) ((unsigned_Decides c.locked-locked.result 0).0 none)
    c.locked-locked.ensures)
