use Rattle.std.proofs.Common.{◌+◌, [], arith}
use Rattle.nfs_objects.specs.Calls.{root_usages}
use Rattle.nfs_inodes.proofs.ExportRootsLemmas.{asks-first, usages-asked, usages-next}
use Rattle.nfs_inodes.proofs.roots.ask_roots.Goals as goal

pub loop-root-init : goal.loop-root-init
loop-root-init c = record {
  numbered = omega arith;
  asks = asks-first c.args.draft.now c.args.last c.args.roots.now c.new-asking.result.asked.items c.new-asking.ensures;
}

pub loop-root-preserved : goal.loop-root-preserved
loop-root-preserved c = record {
  numbered = omega (arith, c.loop-root.invariant.numbered);
  asks = usages-next c.args.draft.now c.args.last (c.loop-root.export + 1) c.group_of-group.result c.args.roots.now
      c.loop-root.root-index (record { number = 0; generation = 0 }) [] c.loop-root.asking.asked.items
      c.add.new.self.asked.items c.loop-root-test.true c.loop-root.invariant.asks
      (omega (arith, c.loop-root.invariant.numbered)) c.group_of-group.ensures c.in_ok-add.ensures.ok;
}

pub returns : goal.returns
returns c =
    c.ask.ensures.stops c.args.draft.now (root_usages c.args.last c.args.roots.now)
    (usages-asked c.args.draft.now c.args.last c.args.roots.now c.loop-root.root-index c.loop-root.asking.asked.items
    (omega (arith, c.loop-root-test.false)) c.loop-root.invariant.asks)
