use Rattle.std.proofs.Common.{◌+◌, List, subst}
use Rattle.std.specs.declared.alloc.Global.{Global}
use Rattle.std.specs.declared.vec.Vec.{Vec}
use Rattle.nfs_engine.specs.Arrivals.{shared_value}
use Rattle.nfs_engine.specs.declared.journal.Receipt.{Receipt}
use Rattle.nfs_pool.specs.Eras.{IsTellIn}
use Rattle.nfs_pool.proofs.TakenReceiptsLemmas.{takes_there}
use Rattle.nfs_pool.proofs.comparing.take_told.Goals as goal

pub returns-in-Some-clause-takes : goal.returns-in-Some-clause-takes
returns-in-Some-clause-takes c =
    let n = c.args.before + c.args.place + 1 in
    let r = shared_value c.args.executed.now in
    takes_there c.args.lists.now.items c.in-Some.index c.in-Some.at n r
    (subst (λ (ls : List (Vec Receipt Global)). IsTellIn ls c.in-Some.index c.in-Some.at n r) c.deref.ensures.value
    c.in-Some.ensures.found)
    c.index_mut.result.now c.remove.new.self c.remove.result c.index_mut.ensures.value c.remove.ensures.value
    c.remove.ensures.items
