use Rattle.nfs_engine.proofs.GivenUpCallLemmas.{gave_up}
use Rattle.nfs_engine.proofs.engine.Engine.give_up.Goals as goal

pub returns-clause-others : goal.returns-clause-others
returns-clause-others c = rw (← c.self.view_is) (gave_up c.self.inside.book c.give_up.new.self c.self.inside.shards
    c.args.pending.key c.args.pending.id c.give_up.ensures.rest)
