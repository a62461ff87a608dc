use Rattle.std.proofs.Common.{subst}
use Rattle.nfs_engine.specs.Calls.{TxnValue}
use Rattle.nfs_schedule.specs.Courses.{IsNextStep}
use Rattle.nfs_pool.proofs.ReadsOnLemmas.{reads_twice}
use Rattle.nfs_pool.proofs.carrying.run.Goals as goal

pub make-requires-clause-next : goal.make-requires-clause-next
make-requires-clause-next g c =
    subst (λ (t : TxnValue). IsNextStep t c.in-Some.step) c.txn-in-steps.ensures c.in-Some.ensures

pub steps-preserved-in-Some : goal.steps-preserved-in-Some
steps-preserved-in-Some g c = (
  reads_twice c.args.txn.now c.steps.txn c.make.new.txn c.steps.invariant.0 c.make.ensures.reads,
  c.in_ok-course-in-Some.ensures.made.at,
)

pub steps-preserved : goal.steps-preserved
steps-preserved g c = (
  reads_twice c.args.txn.now c.steps.txn c.make-in-Reads.new.txn c.steps.invariant.0 c.make-in-Reads.ensures.reads,
  c.in_ok-course-in-Reads.ensures.made.at,
)
