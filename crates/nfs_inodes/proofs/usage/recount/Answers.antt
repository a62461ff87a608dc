use Rattle.nfs_inodes.proofs.UsageChangeLemmas.{count-known}
use Rattle.nfs_inodes.proofs.usage.recount.Goals as goal

pub count-requires-clause-known : goal.count-requires-clause-known
count-requires-clause-known c = count-known c.args.draft.now c.args.before.export c.args.number c.args.before.usage
    c.args.after _ c.in_ok-usage.ensures

pub returns-clause-turns : goal.returns-clause-turns
returns-clause-turns c = c.in_ok-count.ensures.turns c.args.before.usage c.args.after c.in_ok-usage.ensures
