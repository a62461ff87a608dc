use Rattle.std.proofs.Common.{None, arith, option_map, subst, ◌≡◌, ℕ}
use Rattle.std.specs.Arc.{arc_value}
use Rattle.nfs_objects.specs.declared.address.Addr.{Addr}
use Rattle.nfs_objects.specs.declared.address.Addr.TheVariants.{Inode}
use Rattle.nfs_engine.proofs.SweepShardLemmas.{ShardGoneTo, inode-still, shard-all, shard-first, shard-next}
use Rattle.nfs_engine.specs.Shards.{Fills}
use Rattle.nfs_engine.proofs.shard.Shard.make_sweep.Goals as goal

pub loop-place-init : goal.loop-place-init
loop-place-init c =
    shard-first c.args.self.now c.replace.new.self c.args.sweep.now.file c.args.sweep.now.page
    (subst (λ (a : Addr). Fills c.args.self.now c.replace.new.self a None) c.map.ensures c.replace.ensures.fills)

pub loop-place-preserved : goal.loop-place-preserved
loop-place-preserved c =
    shard-next c.args.self.now c.loop-place.self c.replace-in-loop-place.new.self c.args.sweep.now.file
    c.args.sweep.now.page
    c.loop-place.place c.block.result c.block.ensures c.loop-place.invariant c.replace-in-loop-place.ensures.fills

pub replace-requires-2 : goal.replace-requires-2
replace-requires-2 c =
    inode-still c.args.self.now c.loop-place.self c.args.sweep.now (option_map arc_value c.args.left)
    c.loop-place.place c.file.result c.file.ensures c.requires.left c.requires.free c.loop-place.invariant

pub returns : goal.returns
returns c =
    let whole : c.loop-place.place ≡ 512 = omega arith in
    shard-all c.args.self.now c.loop-place.self c.replace-2.new.self c.args.sweep.now (option_map arc_value c.args.left)
    c.requires.left (subst (λ (n : ℕ). ShardGoneTo c.args.self.now c.loop-place.self c.args.sweep.now.file
    c.args.sweep.now.page n) whole c.loop-place.invariant)
    (subst (λ (n : ℕ). Fills c.loop-place.self c.replace-2.new.self (Inode n) (option_map arc_value c.args.left))
    c.file.ensures c.replace-2.ensures.fills)
