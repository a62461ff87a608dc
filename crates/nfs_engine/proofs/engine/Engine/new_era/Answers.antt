use Rattle.nfs_engine.proofs.engine.Engine.new_era.Goals as goal

pub returns-clause-rebases : goal.returns-clause-rebases
returns-clause-rebases c = rw (← c.self.view_is) c.new_era.ensures.rebases
