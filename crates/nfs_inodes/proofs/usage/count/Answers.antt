use Rattle.std.proofs.Common.{subst}
use Rattle.nfs_inodes.proofs.UsageChangeLemmas.{none-counts, on-ok, put-counts, put-keeps}
use Rattle.nfs_inodes.specs.Counts.{IsCount}
use Rattle.nfs_inodes.proofs.usage.count.Goals as goal

pub returns-in-Some-clause-turns : goal.returns-in-Some-clause-turns
returns-in-Some-clause-turns c =
    on-ok c.put_usage.result (λ is before after count.
    put-counts c.args.draft.now c.put_usage.new.self c.args.export c.args.number c.in-Some.usage
    (rw c.group_of.ensures at is) before after
    (subst (IsCount c.args.draft.now c.args.export c.args.number before after) c.in-Some.is count))
    c.put_usage.ensures.ok

pub returns-in-Some-clause-keeps : goal.returns-in-Some-clause-keeps
returns-in-Some-clause-keeps c =
    on-ok c.put_usage.result (λ is. put-keeps c.args.draft.now c.put_usage.new.self c.args.export _ _ is)
    c.put_usage.ensures.ok

pub returns-in-None-clause-turns : goal.returns-in-None-clause-turns
returns-in-None-clause-turns c = λ before after count.
    none-counts c.args.draft.now c.args.export c.args.number before after
    (subst (IsCount c.args.draft.now c.args.export c.args.number before after) c.in-None.is count)
