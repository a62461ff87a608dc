use Rattle.nfs_streams.proofs.ClearedLemmas.{cleared_on, cleared_rests}
use Rattle.nfs_streams.proofs.answer.clear_dead.Goals as goal

pub returns-clause-rest : goal.returns-clause-rest
returns-clause-rest c =
    cleared_rests c.args.engine.now c.clear_dead.new.self c.clear_dead.ensures c.requires.rest

pub returns-clause-on : goal.returns-clause-on
returns-clause-on c = cleared_on c.args.engine.now c.clear_dead.new.self c.clear_dead.ensures
