use Rattle.std.proofs.lemmas.Result.{err_from_is_err_and}
use Rattle.nfs_streams.proofs.ServingLoopLemmas.{part_first, part_then}
use Rattle.nfs_streams.proofs.AllWrittenLemmas.{part_whole}
use Rattle.nfs_streams.proofs.sending.write_waiting.Goals as goal

pub returns-in_err-write_all-clause-part : goal.returns-in_err-write_all-clause-part
returns-in_err-write_all-clause-part g c =
    let p = err_from_is_err_and c.from_residual.result c.from_residual.ensures.1 in
    rw p.1 (part_first _ _ _ _ (rw c.gathered-first.ensures at c.in_err-write_all.ensures.part))

pub returns-in_err-write_all-2-clause-part : goal.returns-in_err-write_all-2-clause-part
returns-in_err-write_all-2-clause-part g c =
    let p = err_from_is_err_and c.from_residual-in_err-write_all-2.result
    c.from_residual-in_err-write_all-2.ensures.1 in
    rw p.1
    (part_then _ _ _ _ _ (rw c.gathered-first.ensures at c.in_ok-write_all.ensures.written)
    (rw c.last-behind.ensures at c.in_err-write_all-2.ensures.part))

pub returns-clause-part : goal.returns-clause-part
returns-clause-part g c =
    part_whole _ _ _ _ _ _ (rw c.gathered-first.ensures at c.in_ok-write_all.ensures.written)
    (rw c.last-behind.ensures at c.in_ok-write_all-2.ensures.written) c.flush.ensures.bytes c.map_err.result
