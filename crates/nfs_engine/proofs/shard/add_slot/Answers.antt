use Rattle.std.proofs.Common.{Some}
use Rattle.nfs_tables.specs.Tables.{entries}
use Rattle.nfs_engine.specs.Shards.{slot_value}
use Rattle.nfs_engine.proofs.AddressMapLemmas.{found-turned, lookup-none}
use Rattle.nfs_engine.proofs.shard.add_slot.Goals as goal

pub add-requires : goal.add-requires
add-requires c = record {
  absent = lookup-none slot_value c.args.address (entries c.args.others.now) c.requires;
}

pub returns-clause-ok : goal.returns-clause-ok
returns-clause-ok c =
    found-turned slot_value c.args.others.now c.add.new.self c.args.address (Some c.args.slot) c.in_ok-add.ensures.ok
