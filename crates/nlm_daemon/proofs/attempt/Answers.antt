use Rattle.nfs_machine.specs.declared.calls.Call.TheVariants as calls
use Rattle.nlm_daemon.proofs.attempt.Goals as goal

pub returns-clause-attempts : goal.returns-clause-attempts
returns-clause-attempts c = c.outcome.ensures.attempts (calls.Nlm c.args.call.now) c.args.ctx.now c.args.view.now
    c.ended.ensures.ends

pub returns-clause-at_once : goal.returns-clause-at_once
returns-clause-at_once c = λ is.
    c.outcome.ensures.at_once (calls.Nlm c.args.call.now) c.args.view.now (c.ended.ensures.at_once is)
