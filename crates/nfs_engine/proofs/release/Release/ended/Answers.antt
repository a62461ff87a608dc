use Rattle.nfs_engine.proofs.LetGoAllLemmas.{aborted_after, ended_after}
use Rattle.nfs_engine.proofs.release.Release.ended.Goals as goal

pub returns-in-Some : goal.returns-in-Some
returns-in-Some c = aborted_after c.args.self.after c.in-Some.pending c.in-Some.ensures

pub returns-in-None : goal.returns-in-None
returns-in-None c = ended_after c.args.self.after c.in-None.ensures
