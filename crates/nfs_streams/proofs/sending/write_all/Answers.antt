use Rattle.nfs_streams.proofs.ServingLoopLemmas.{writing_more}
use Rattle.nfs_streams.proofs.sending.write_all.Goals as goal

pub writes-preserved : goal.writes-preserved
writes-preserved g c =
    writing_more _ _ _ _ _ _ _ _ _ c.in-Ok.count c.writes.invariant c.in-Ok.ensures.bytes c.split_at.ensures.back
    c.in-Ok.ensures.ok
