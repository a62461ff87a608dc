-- A reply of one fragment makes the datagram of its body.
use Rattle.std.proofs.Common.{◌≡◌, ◌+◌, ◌&&◌, suc, length, Some, None, true, cond, arith}
use Rattle.std.proofs.lemmas.Bool.Decides.{nat_tests}
use Rattle.std.specs.Prelude.{nat_le, nat_lt}
use Rattle.nfs_streams.specs.Datagrams.{RepliesMakeDatagrams}
use Rattle.nfs_streams.specs.declared.datagrams.TheConstants.{MARK_SIZE, MOST_IN_DATAGRAM}

pub replies_make : RepliesMakeDatagrams
replies_make body some most =
    let more : nat_lt MARK_SIZE (suc (suc (suc (suc (length body))))) ≡ true = grind (arith, nat_tests, some) in
    let fits : nat_le (suc (suc (suc (suc (length body))))) (MARK_SIZE + MOST_IN_DATAGRAM) ≡ true =
    grind (arith, nat_tests, most) in
    (λ i. cond (more i && fits i) (Some body) None)
