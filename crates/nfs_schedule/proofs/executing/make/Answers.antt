use Rattle.nfs_engine.specs.Book.{store_in}
use Rattle.nfs_schedule.proofs.CourseStepLemmas.{number_made, number_once, taken_made, taken_once}
use Rattle.nfs_schedule.proofs.executing.make.Goals as goal

pub returns-in_ok-acquire-in-Acquire-clause-made : goal.returns-in_ok-acquire-in-Acquire-clause-made
returns-in_ok-acquire-in-Acquire-clause-made c =
    taken_made c.args.txn.now c.acquire.new.txn (c.in-Acquire.address, c.in-Acquire.mode)
    ((store_in c.args.engine.now.book).at c.in-Acquire.address) _ (rw c.in-Acquire.is at c.requires.next)
    c.in_ok-acquire-in-Acquire.ensures.taken

pub returns-in_ok-acquire-in-Acquire-clause-once : goal.returns-in_ok-acquire-in-Acquire-clause-once
returns-in_ok-acquire-in-Acquire-clause-once c once =
    taken_once c.args.txn.now c.acquire.new.txn _ once (rw c.in-Acquire.is at c.requires.next).unseen
    c.in_ok-acquire-in-Acquire.ensures.taken

pub returns-in_ok-reserve-in-Reserve-clause-made : goal.returns-in_ok-reserve-in-Reserve-clause-made
returns-in_ok-reserve-in-Reserve-clause-made c =
    let got = c.in_ok-reserve-in-Reserve.ensures.reserved in
    number_made c.args.txn.now c.reserve.new.txn got.0 _ (rw c.in-Reserve.is at c.requires.next) got.1.call

pub returns-in_ok-reserve-in-Reserve-clause-once : goal.returns-in_ok-reserve-in-Reserve-clause-once
returns-in_ok-reserve-in-Reserve-clause-once c once =
    let got = c.in_ok-reserve-in-Reserve.ensures.reserved in
    number_once c.args.txn.now c.reserve.new.txn got.0 once got.1
