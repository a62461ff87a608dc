-- The header stands at the same place, whatever follows.
use Rattle.nfs_rpc.proofs.StreamLemmas.{too_large_goes_on}
use Rattle.nfs_rpc.proofs.marking.too_large_stays.Goals as goal

pub returns : goal.returns
returns c = too_large_goes_on
