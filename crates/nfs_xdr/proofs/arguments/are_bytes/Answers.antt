use Rattle.std.proofs.Common.{arith}
use Rattle.nfs_xdr.proofs.arguments.are_bytes.Goals as goal

pub returns : goal.returns
returns c = λ i. omega (arith, c.type_inv.bytes i)
