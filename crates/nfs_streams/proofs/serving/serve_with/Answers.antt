use Rattle.nfs_streams.proofs.StreamPieceLemmas.{front_none}
use Rattle.nfs_streams.proofs.serving.serve_with.Goals as goal

pub returns-in_default-clause-fault : goal.returns-in_default-clause-fault
returns-in_default-clause-fault g c = λ input is. front_none _ _ _ _ _ _ _ c.new-connection.ensures.records input is
