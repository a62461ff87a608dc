use Rattle.nfs_engine.proofs.GarbageArgumentsLemmas.{garbage_early}
use Rattle.nfs_engine.proofs.asking.read_record.Goals as goal

pub returns-in-Err-Garbage : goal.returns-in-Err-Garbage
returns-in-Err-Garbage c = garbage_early _ _ c.in-Ok.ensures
    (rw c.in-Err-Garbage.field-0-is at c.in-Err-Garbage.ensures)

pub returns-in-Err-Memory : goal.returns-in-Err-Memory
returns-in-Err-Memory c = (_, c.in-Ok.ensures, rw c.in-Err-Memory.field-0-is at c.in-Err-Memory.ensures)
