use Rattle.std.proofs.Common.{◌/◌, arith}
use Rattle.nfs_pool.proofs.UnmarkedLemmas.{unmarked}
use Rattle.nfs_pool.proofs.sweeping.unmark.Goals as goal

pub returns : goal.returns
returns g c old new are sweeps =
    let first = c.first_block-first.ensures.value in
    unmarked c.args.sweep.now c.args.marks.now c.loop-index.marks c.file-file.result (c.first_block-first.result / 512)
    c.first_block-first.result c.loop-index.index c.loop-index.invariant c.file-file.ensures
    (omega (arith, first)) first
    (omega (arith, c.loop-index-test.false, c.loop-index.auto.index, first)) old new are sweeps
