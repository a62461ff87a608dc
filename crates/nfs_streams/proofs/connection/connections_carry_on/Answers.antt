use Rattle.nfs_streams.proofs.ConnectionCarriesLemmas.{carried_on}
use Rattle.nfs_streams.proofs.connection.connections_carry_on.Goals as goal

pub returns : goal.returns
returns c = carried_on
