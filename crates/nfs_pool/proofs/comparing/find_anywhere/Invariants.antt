use Rattle.std.proofs.Common.{◌+◌, take}
use Rattle.nfs_engine.specs.Arrivals.{shared_value}
use Rattle.nfs_pool.specs.Eras.{NoneTells, told_in}
use Rattle.nfs_pool.proofs.comparing.find_anywhere.Given as goal

abbrev pub invariant-loop-index : goal.invariant-loop-index
invariant-loop-index l =
    NoneTells (l.before + l.place + 1) (shared_value l.executed) (told_in (take l.index l.lists))
