use Rattle.std.proofs.Common.{None, Some, subst, sym}
use Rattle.std.specs.Arc.{arc_value}
use Rattle.nlm_daemon.proofs.AnsweredGrantLemmas.{finds-later, grant-first, none-first}
use Rattle.nlm_daemon.proofs.granting.pending_in.Goals as goal
use Rattle.nlm_daemon.specs.Granted.{FindsPending}

pub loop-file-preserved : goal.loop-file-preserved
loop-file-preserved c = λ found finds.
    c.loop-file.invariant found
    (subst (λ fs. FindsPending c.args.exports.now fs c.args.number found) (sym c.in-Some.ensures.steps)
    (finds-later c.args.exports.now c.args.number c.in-Some.file.now c.next.new.self found
    (rw c.in_default-2.is at c.in_ok-pending.ensures) finds))

pub returns-in-Some-2 : goal.returns-in-Some-2
returns-in-Some-2 c =
    c.loop-file.invariant (Some c.in-Some-2.pending)
    (subst (λ fs. FindsPending c.args.exports.now fs c.args.number (Some c.in-Some-2.pending))
    (sym c.in-Some.ensures.steps)
    (grant-first c.args.exports.now c.args.number c.in-Some.file.now c.next.new.self c.in-Some-2.pending.file
    (arc_value c.in-Some-2.pending.request) (rw c.in-Some-2.is at c.in_ok-pending.ensures)))

pub returns : goal.returns
returns c =
    c.loop-file.invariant None
    (subst (λ fs. FindsPending c.args.exports.now fs c.args.number None) (sym c.in_default.ensures.steps.0)
    (none-first c.args.exports.now c.args.number))
