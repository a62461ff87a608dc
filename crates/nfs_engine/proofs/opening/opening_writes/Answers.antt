use Rattle.std.proofs.Common.{arith}
use Rattle.nfs_machine.specs.Exports.{export_value}
use Rattle.nfs_engine.proofs.OpeningWritesLemmas.{few_exports, first_write, more_writes}
use Rattle.nfs_engine.proofs.opening.opening_writes.Goals as goal

pub loop-index-init : goal.loop-index-init
loop-index-init c =
    first_write _ _ _ _ _ _ _ c.new-writes.ensures.items c.in_ok-push.ensures.items c.in_ok-table-2.ensures.ok
    c.in_ok-table.ensures.exports c.in_ok-table.ensures.last

pub loop-index-preserved : goal.loop-index-preserved
loop-index-preserved c =
    more_writes _ _ _ _ _ _ _ c.loop-index.invariant c.in_ok-push_root.ensures
    (omega (
      arith,
      c.loop-index-test.true,
      few_exports export_value _ _ c.list-count.ensures.list c.list-count.ensures.faultless,
    ))
