use Rattle.std.proofs.Common.{◌∙◌, arith, false, get_or, not, refl}
use Rattle.std.proofs.lemmas.List.{length-set}
use Rattle.nfs_engine.proofs.LetGoAllLemmas.{one_marked}
use Rattle.nfs_engine.proofs.release.Release.left.Goals as goal

pub loop-index-preserved : goal.loop-index-preserved
loop-index-preserved c = (
  rw (← c.self.view_is) (one_marked c.self.inside.done c.loop-index.left c.loop-index.index
      (not (get_or c.self.inside.done c.loop-index.index false)) (rw (← c.self.view_is) at c.loop-index.invariant.0)
      (omega (arith, c.loop-index.invariant.1)) refl),
  length-set c.loop-index.left c.loop-index.index (not (get_or c.self.inside.done c.loop-index.index false)) ∙
      c.loop-index.invariant.1,
)
