use Rattle.std.proofs.Common.{take}
use Rattle.std.specs.List.{AllByRecursion}
use Rattle.nfs_engine.specs.Book.{store_in}
use Rattle.nfs_engine.specs.Tables.{Stands}
use Rattle.nfs_pool.proofs.desk.Desk.fits.Given as goal

abbrev pub invariant-loop-place : goal.invariant-loop-place
invariant-loop-place g l = AllByRecursion (Stands (store_in l.self.book)) (take l.place l.finished.done.view.entries)
