use Rattle.nfs_engine.proofs.HeldCountLemmas.{nothing_held}
use Rattle.nfs_engine.proofs.engine.Engine.close.Goals as goal

pub returns : goal.returns
returns c = nothing_held c.args.self.shards c.requires.locked
