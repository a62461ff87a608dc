use Rattle.std.proofs.Common.{rules}
use Rattle.nfs_xdr.specs.Writing.{appended, with_arm}
use Rattle.nfs_wire.specs.Results.{done_value}
use Rattle.nfs_wire.proofs.replies.data.write_getattr.Goals as goal

pub returns-in_ok-write_done-in-Ok : goal.returns-in_ok-write_done-in-Ok
unfolding appended with_arm done_value
returns-in_ok-write_done-in-Ok c = rw c.in-Ok.is (search rules)
