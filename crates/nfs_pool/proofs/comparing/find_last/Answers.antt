use Rattle.std.proofs.Common.{◌+◌, List, length, map, refl, subst}
use Rattle.std.proofs.lemmas.Option.{slice_get_read}
use Rattle.nfs_engine.specs.Arrivals.{shared_value}
use Rattle.nfs_engine.specs.declared.journal.Receipt.{Receipt}
use Rattle.nfs_pool.specs.Eras.{IsToldAt, told}
use Rattle.nfs_pool.proofs.comparing.find_last.Goals as goal

pub returns-in-Some : goal.returns-in-Some
returns-in-Some c = (
  c.index-lists-index.result,
  slice_get_read c.args.lists.now (length c.args.lists.now) c.loop-index.index c.index-lists-index.result refl
      c.loop-index-test.true c.index-lists-index.is,
  subst (λ (rs : List Receipt). IsToldAt (map told rs) c.in-Some.at (c.args.before + c.args.place + 1)
      (shared_value c.args.executed.now)) c.deref.ensures.value c.in-Some.ensures,
)
