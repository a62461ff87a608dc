-- A body that misses nothing becomes an earlier fragment, and the next header begins.
use Rattle.std.proofs.Common.{◌≡◌, arith}
use Rattle.nfs_rpc.proofs.FragmentByteLemmas.{body_ends}
use Rattle.nfs_rpc.proofs.marking.FragmentState.in_body.Goals as goal

pub returns-else-last-clause-leads : goal.returns-else-last-clause-leads
returns-else-last-clause-leads c content bytes b within =
    let none : c.args.missing ≡ 0 = omega arith in
    body_ends content bytes (rw (c.if-last.false, none) at b)
