use Rattle.std.proofs.Common.{refl}
use Rattle.nfs_xdr.specs.Reading.{read, read_all}
use Rattle.nfs_rpc.specs.Early.{call_of}
use Rattle.nfs_rpc.proofs.worked.worked_calls.Goals as goal

pub returns : goal.returns
unfolding call_of read read_all
returns c = record { nobody = refl; user = refl }
