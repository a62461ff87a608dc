use Rattle.nfs_engine.specs.Book.{store_in}
use Rattle.nfs_schedule.proofs.CourseStepLemmas.{number_made, taken_made}
use Rattle.engine_tests.proofs.tests.attempts.courses.make.Goals as goal

pub returns-in_ok-acquire-in-Acquire-clause-made : goal.returns-in_ok-acquire-in-Acquire-clause-made
returns-in_ok-acquire-in-Acquire-clause-made c =
    taken_made c.args.txn.now c.acquire.new.txn (c.in-Acquire.address, c.in-Acquire.mode)
    ((store_in c.args.engine.now.book).at c.in-Acquire.address) _ (rw c.in-Acquire.is at c.requires.next)
    c.in_ok-acquire-in-Acquire.ensures.taken

pub returns-in_ok-reserve-in-Reserve-clause-made : goal.returns-in_ok-reserve-in-Reserve-clause-made
returns-in_ok-reserve-in-Reserve-clause-made c =
    let got = c.in_ok-reserve-in-Reserve.ensures.reserved in
    number_made c.args.txn.now c.reserve.new.txn got.0 _ (rw c.in-Reserve.is at c.requires.next) got.1
