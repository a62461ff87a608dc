use Rattle.nfs_server.proofs.AnsweredLinesLemmas.{on_err}
use Rattle.nfs_server.proofs.SentLineLemmas.{both_written, part_first, part_none, then_part}
use Rattle.nfs_server.proofs.network.peer.PeerLink.write.Goals as goal

pub returns-in_err-begun-clause-part : goal.returns-in_err-begun-clause-part
returns-in_err-begun-clause-part g c = on_err c.from_residual.result (part_none _ _)

pub returns-in_err-write_within-clause-part : goal.returns-in_err-write_within-clause-part
returns-in_err-write_within-clause-part g c =
    on_err c.from_residual-in_err-write_within.result
    (part_first _ _ _ _ (rw c.gathered.ensures at c.in_err-write_within.ensures.part))

pub returns-clause-ok : goal.returns-clause-ok
returns-clause-ok g c =
    both_written _ _ _ _ _ (rw c.gathered.ensures at c.in_ok-write_within.ensures.ok) c.write_within-2.result
    (rw c.last.ensures at c.write_within-2.ensures.ok)

pub returns-clause-part : goal.returns-clause-part
returns-clause-part g c =
    then_part _ _ _ _ _ (rw c.gathered.ensures at c.in_ok-write_within.ensures.ok) c.write_within-2.result
    (rw c.last.ensures at c.write_within-2.ensures.part)
