use Rattle.std.proofs.Common.{refl}
use Rattle.nfs_xdr.specs.Reading.{read}
use Rattle.nfs_rpc.specs.Early.{call_of}
use Rattle.nfs_rpc.proofs.worked.worked_faults.Goals as goal

pub returns : goal.returns
unfolding call_of read
returns c = record {
  short = refl;
  reply = refl;
  version_of_rpc = refl;
  cut_behind_version = refl;
  cut = refl;
  long_credential = refl;
  flavor = refl;
  body = refl;
  credential_first = refl;
  program = refl;
  version = refl;
  version_of_nlm = refl;
  procedure = refl;
}
