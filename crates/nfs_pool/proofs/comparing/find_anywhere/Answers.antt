use Rattle.std.proofs.Common.{◌+◌, List, length, map, refl, subst, take, ℕ}
use Rattle.std.specs.declared.alloc.Global.{Global}
use Rattle.std.specs.declared.vec.Vec.{Vec}
use Rattle.std.proofs.lemmas.Option.{slice_get_read}
use Rattle.nfs_machine.specs.Run.{Record}
use Rattle.nfs_engine.specs.Arrivals.{shared_value}
use Rattle.nfs_engine.specs.declared.journal.Receipt.{Receipt}
use Rattle.nfs_pool.specs.Eras.{IsToldAt, NoneTells, told, told_in}
use Rattle.nfs_pool.proofs.ReceiptNumberLemmas.{told_each-next}
use Rattle.nfs_pool.proofs.TakenReceiptsLemmas.{none_append}
use Rattle.nfs_pool.proofs.comparing.find_anywhere.Goals as goal

pub returns-in-Some-clause-found : goal.returns-in-Some-clause-found
returns-in-Some-clause-found c = (
  c.index-lists-index.result,
  slice_get_read c.args.lists.now (length c.args.lists.now) c.loop-index.index c.index-lists-index.result refl
      c.loop-index-test.true c.index-lists-index.is,
  subst (λ (rs : List Receipt). IsToldAt (map told rs) c.in-Some.at (c.args.before + c.args.place + 1)
      (shared_value c.args.executed.now)) c.deref.ensures.value c.in-Some.ensures.found,
)

pub loop-index-preserved : goal.loop-index-preserved
loop-index-preserved c =
    let n = c.args.before + c.args.place + 1 in
    let r = shared_value c.args.executed.now in
    subst (λ (ts : List (ℕ × Record)). NoneTells n r ts)
    (told_each-next (λ (list : Vec Receipt Global). list.items) c.args.lists.now c.loop-index.index
    c.index-lists-index.result c.deref.result.now c.loop-index-test.true c.index-lists-index.is c.deref.ensures.value)
    (none_append n r (told_in (take c.loop-index.index c.args.lists.now)) (map told c.deref.result.now)
    c.loop-index.invariant c.in_default.ensures.none)
