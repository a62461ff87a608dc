use Rattle.std.proofs.Common.{ap, arith, length, subst, ◌≤◌}
use Rattle.nfs_objects.proofs.MountTableLemmas.{gone-few, listed-count}
use Rattle.nfs_objects.proofs.mounts.MountTable.len.Goals as goal

pub overflow_sub-result : goal.overflow_sub-result
overflow_sub-result c =
    let few = gone-few c.self.inside.older c.self.inside.gone c.self.inside.latest c.self.invariant in
    omega (arith, few, c.len.ensures.len)

pub returns-clause-len : goal.returns-clause-len
returns-clause-len c =
    let count = listed-count c.self.inside.older c.self.inside.gone c.self.inside.latest c.self.invariant in
    omega (arith, count, ap length c.self.view_is, c.len.ensures.len, c.len-2.ensures.len)

pub returns-clause-bounded : goal.returns-clause-bounded
returns-clause-bounded c = subst (λ mounts. length mounts ≤ 65536) c.self.view_is c.self.invariant.bounded
