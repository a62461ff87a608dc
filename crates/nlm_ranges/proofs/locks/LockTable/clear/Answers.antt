use Rattle.std.proofs.Common.{◌++◌, None, subst}
use Rattle.nfs_machine.specs.Locks.{HasModes, modes_with}
use Rattle.nlm_ranges.proofs.LockTableLemmas.{cleared-as}
use Rattle.nlm_ranges.proofs.locks.LockTable.clear.Goals as goal

pub invariant_of-result : goal.invariant_of-result
invariant_of-result c =
    (cleared-as c.self.inside.exclusive c.self.inside.shared c.self.invariant c.in_ok-exclusive.exclusive
    c.in_ok-shared.shared c.args.range.now c.in_ok-exclusive.ensures c.in_ok-shared.ensures).0

pub returns : goal.returns
returns c =
    let exs = c.in_ok-exclusive.exclusive in
    let shs = c.in_ok-shared.shared in
    subst (λ locks. HasModes (exs ++ shs) (modes_with locks c.args.range.now None)) c.self.view_is
    (cleared-as c.self.inside.exclusive c.self.inside.shared c.self.invariant exs shs c.args.range.now
    c.in_ok-exclusive.ensures c.in_ok-shared.ensures).1
