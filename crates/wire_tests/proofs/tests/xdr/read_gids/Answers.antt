use Rattle.std.proofs.Common.{arith, rules}
use Rattle.std.proofs.lemmas.Grind.{common_steps}
use Rattle.nfs_xdr.specs.Reading.{read, read_all}
use Rattle.nfs_xdr.specs.Types.{Word}
use Rattle.wire_tests.proofs.ArrayLoopLemmas.{read_all-more, read_all-stops}
use Rattle.wire_tests.proofs.tests.xdr.read_gids.Goals as goal

pub loop-i-init : goal.loop-i-init
unfolding read_all
loop-i-init c = search rules

pub loop-i-preserved : goal.loop-i-preserved
loop-i-preserved c =
    let further = read_all-more (read Word) c.loop-i._i _ _ _ _ _ c.loop-i.invariant c.in_ok-u32.ensures in
    rw c.in_ok-push.ensures.items further

pub returns-in_err-u32 : goal.returns-in_err-u32
unfolding read
returns-in_err-u32 c =
    let stops = read_all-stops (read Word) c.loop-i._i c.in_ok-count.count _ _ _ _ c.loop-i-test.true
    c.loop-i.invariant c.in_err-u32.ensures.0 in
    grind (arith, common_steps, stops)
