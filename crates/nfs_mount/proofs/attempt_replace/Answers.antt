use Rattle.nfs_machine.specs.declared.calls.Call.TheVariants as calls
use Rattle.nfs_mount.proofs.attempt_replace.Goals as goal

pub returns-clause-attempts : goal.returns-clause-attempts
returns-clause-attempts c =
    c.outcome.ensures.attempts (calls.Replace c.args.exports.now) c.args.ctx.now c.args.view.now c.replaced.ensures.ends
