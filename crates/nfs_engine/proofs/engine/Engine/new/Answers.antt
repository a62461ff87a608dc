use Rattle.std.proofs.Common.{map, ◌∙◌}
use Rattle.nfs_objects.specs.Values.{write_value}
use Rattle.nfs_engine.proofs.OpenedShardsLemmas.{nobody_holds, opened_tied}
use Rattle.nfs_engine.proofs.engine.Engine.new.Goals as goal

pub open_all-requires : goal.open_all-requires
open_all-requires c = nobody_holds c.new_shards-shards.result c.new_shards-shards.ensures.new
    c.new_shards-shards.ensures.sixteen

pub invariant_of-result : goal.invariant_of-result
invariant_of-result c = opened_tied c.in-Ok.opened.0 c.new_shards-shards.result c.open_all.new.shards
    (map write_value c.in-Ok.opened.1.items) c.new_shards-shards.ensures.new c.new_shards-shards.ensures.sixteen
    c.in-Ok-open_all.ensures c.in-Ok.ensures.store c.in-Ok.ensures.given

pub returns-in-Ok-open_all-clause-free : goal.returns-in-Ok-open_all-clause-free
returns-in-Ok-open_all-clause-free c a j = c.in-Ok-open_all.ensures.holds a j ∙
    nobody_holds c.new_shards-shards.result
    c.new_shards-shards.ensures.new c.new_shards-shards.ensures.sixteen a j
