use Rattle.std.proofs.Common.{arith, ap, ◌∙◌, ◌%◌}
use Rattle.nfs_engine.proofs.SweptEngineLemmas.{one-swept}
use Rattle.nfs_engine.proofs.engine.sweep_in.Goals as goal

pub returns-clause-done : goal.returns-clause-done
returns-clause-done c = λ is.
    one-swept c.args.shards.now c.shard_index-index.result c.index-shards-index.result c.sweep.new.self
    (omega (arith, c.shard_index-index.ensures.within)) c.args.sweep.now
    (c.shard_index-index.ensures.which ∙ ap (λ n. n % 16) c.file.ensures)
    (c.in_ok-is_free.ensures.free.0 is) (c.in_ok-is_free.ensures.done is)
