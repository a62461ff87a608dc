use Rattle.std.proofs.Common.{subst}
use Rattle.nfs_xdr.specs.Laws.{IsBytes}
use Rattle.nfs_wire.proofs.VerifierLaws.{read_of_hyper}
use Rattle.nfs_wire.proofs.calls.items.read_verifier.Goals as goal

pub returns : goal.returns
returns c =
    rw c.to_be_bytes.ensures (read_of_hyper _ _ _ (subst IsBytes c.as_slice.ensures c.are_bytes.ensures)
    c.in_ok-u64.ensures)
