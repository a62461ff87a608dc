-- Two readings of a stream agree record by record.
use Rattle.nfs_rpc.proofs.StreamLemmas.{splits_once}
use Rattle.nfs_rpc.proofs.marking.streams_split_once.Goals as goal

pub returns : goal.returns
returns c = splits_once
