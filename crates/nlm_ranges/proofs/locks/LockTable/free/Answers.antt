use Rattle.std.proofs.Common.{◌++◌, subst}
use Rattle.nfs_machine.specs.Locks.{HasModes, modes_without}
use Rattle.nlm_ranges.proofs.LockTableLemmas.{freed-as}
use Rattle.nlm_ranges.proofs.locks.LockTable.free.Goals as goal

pub invariant_of-result : goal.invariant_of-result
invariant_of-result c =
    (freed-as c.self.inside.exclusive c.self.inside.shared c.self.invariant c.in_ok-exclusive.exclusive
    c.in_ok-shared.shared c.args.caller_name.now c.in_ok-exclusive.ensures c.in_ok-shared.ensures).0

pub returns : goal.returns
returns c =
    let exs = c.in_ok-exclusive.exclusive in
    let shs = c.in_ok-shared.shared in
    subst (λ locks. HasModes (exs ++ shs) (modes_without locks c.args.caller_name.now)) c.self.view_is
    (freed-as c.self.inside.exclusive c.self.inside.shared c.self.invariant exs shs c.args.caller_name.now
    c.in_ok-exclusive.ensures c.in_ok-shared.ensures).1
