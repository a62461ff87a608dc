use Rattle.nfs_engine.proofs.ClearingLemmas.{clears-both}
use Rattle.nfs_engine.proofs.engine.Engine.clear_dead.Goals as goal

pub loop-look-preserved : goal.loop-look-preserved
loop-look-preserved c =
    clears-both c.args.self.now c.loop-look.self c.clear_next.new.self c.loop-look.invariant c.clear_next.ensures

pub returns-in-Ended : goal.returns-in-Ended
returns-in-Ended c =
    clears-both c.args.self.now c.loop-look.self c.clear_next.new.self c.loop-look.invariant c.clear_next.ensures

pub returns-then-pages-ge-PAGES : goal.returns-then-pages-ge-PAGES
returns-then-pages-ge-PAGES c =
    clears-both c.args.self.now c.loop-look.self c.clear_next.new.self c.loop-look.invariant c.clear_next.ensures
