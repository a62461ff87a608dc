use Rattle.std.proofs.Common.{length, subst, sym}
use Rattle.nfs_engine.specs.Book.{BookValue}
use Rattle.nfs_pool.specs.Eras.{EndedValue, LeavesEra, told_in}
use Rattle.nfs_pool.proofs.CountsLemmas.{counts-none}
use Rattle.nfs_pool.proofs.ending.leave_era.Goals as goal

pub leave_all-lists-requires-clause-none : goal.leave_all-lists-requires-clause-none
leave_all-lists-requires-clause-none g c = counts-none _ c.no_share-all.ensures.share.1

pub new-requires : goal.new-requires
new-requires g c = (
  c.no_share-all.new.self.book,
  c.new_era-era.new.self.book,
  c.new_era-era.ensures.leaves (length (told_in c.leave_all-lists.result.0.items)) c.leave_all-lists.ensures.counted,
)

pub returns-clause-leaves : goal.returns-clause-leaves
returns-clause-leaves g c =
    let new = c.new_era-era.new.self.book in
    let receipts = told_in c.leave_all-lists.result.0.items in
    subst (λ (e : EndedValue). LeavesEra c.args.desk.now.book new (length e.receipts) e.era) (sym c.new.ensures)
    (subst (λ (b : BookValue). LeavesEra b new (length receipts) c.new_era-era.result) c.no_share-all.ensures.book
    (c.new_era-era.ensures.leaves (length receipts) c.leave_all-lists.ensures.counted))
