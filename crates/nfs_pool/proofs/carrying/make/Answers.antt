use Rattle.nfs_objects.specs.declared.address.Addr.{Addr}
use Rattle.nfs_objects.specs.declared.modes.Mode.{Mode}
use Rattle.nfs_schedule.proofs.CourseStepLemmas.{number_made, taken_made}
use Rattle.nfs_pool.proofs.ReadsOnLemmas.{reads_so}
use Rattle.nfs_pool.proofs.carrying.make.Goals as goal

pub returns-in_ok-acquire-in-Acquire-clause-reads : goal.returns-in_ok-acquire-in-Acquire-clause-reads
returns-in_ok-acquire-in-Acquire-clause-reads g c =
    let taken = c.in_ok-acquire-in-Acquire.ensures.taken in
    reads_so c.args.txn.now c.acquire.new.txn _ taken.1

pub returns-in_ok-acquire-in-Acquire-clause-made : goal.returns-in_ok-acquire-in-Acquire-clause-made
returns-in_ok-acquire-in-Acquire-clause-made g c =
    let taken = c.in_ok-acquire-in-Acquire.ensures.taken in
    let next : Addr × Mode = (c.in-Acquire.address, c.in-Acquire.mode) in
    taken_made c.args.txn.now c.acquire.new.txn next taken.0 c.in-Acquire.after
    (rw c.in-Acquire.is at c.requires.next) taken.1

pub returns-in_ok-reserve-in-Reserve-clause-reads : goal.returns-in_ok-reserve-in-Reserve-clause-reads
returns-in_ok-reserve-in-Reserve-clause-reads g c =
    let got = c.in_ok-reserve-in-Reserve.ensures.reserved in
    reads_so c.args.txn.now c.reserve.new.txn _ got.1

pub returns-in_ok-reserve-in-Reserve-clause-made : goal.returns-in_ok-reserve-in-Reserve-clause-made
returns-in_ok-reserve-in-Reserve-clause-made g c =
    let got = c.in_ok-reserve-in-Reserve.ensures.reserved in
    number_made c.args.txn.now c.reserve.new.txn got.0 c.in-Reserve.after
    (rw c.in-Reserve.is at c.requires.next) got.1
