use Rattle.nfs_schedule.proofs.CourseStepLemmas.{planned_first, planned_next, planned_numbers}
use Rattle.nfs_schedule.proofs.course.go_on.Goals as goal

pub returns-in-Address : goal.returns-in-Address
returns-in-Address c =
    planned_next c.args.alloc c.args.txn.now _ _ c.requires (rw c.in-Address.is at c.in_ok-want.ensures)

pub returns-in-Addresses : goal.returns-in-Addresses
returns-in-Addresses c =
    planned_first c.args.txn.now c.in-Addresses.asked _ _ _ c.requires
    (rw c.in-Addresses.is at c.in_ok-want.ensures) c.into_iter.ensures.rest c.first_of.ensures

pub returns-in-Numbers : goal.returns-in-Numbers
returns-in-Numbers c =
    planned_numbers c.args.txn.now _ _ _ c.requires (rw c.in-Numbers.is at c.in_ok-want.ensures)
    c.after_number.ensures
