-- The reader goes on to where the body's reader stands.
use Rattle.nfs_rpc.proofs.OpaqueRestLemmas.{auth_reads}
use Rattle.nfs_rpc.proofs.calls.read_auth.Goals as goal

pub returns : goal.returns
returns c =
    auth_reads 400 c.args.reader.now c.u32.new.self c.as_slice-bytes.result.now c.new-front.result c.opaque.new.self
    c.advance.new.reader c.in_ok-body.body.now c.in_ok-flavor.flavor c.len.result
    c.in_ok-flavor.ensures c.as_slice-bytes.ensures c.new-front.ensures.value c.in_ok-body.ensures c.len.ensures
    c.advance.ensures
