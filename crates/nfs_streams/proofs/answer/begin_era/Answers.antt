use Rattle.nfs_streams.proofs.RecordAnswerLemmas.{era_rests}
use Rattle.nfs_streams.proofs.answer.begin_era.Goals as goal

pub returns-then-era_is_full-clause-rest : goal.returns-then-era_is_full-clause-rest
returns-then-era_is_full-clause-rest c =
    era_rests c.args.engine.now c.new_era.new.self c.new_era.result c.new_era.ensures.era c.new_era.ensures.shards
    c.requires.rest
