use Rattle.std.proofs.Common.{arith, subst, ◌≡◌, ℕ}
use Rattle.std.specs.Bool.{Decides}
use Rattle.nfs_objects.specs.declared.address.Addr.{Addr}
use Rattle.nfs_engine.proofs.SweepShardLemmas.{IsFree, block-held, page-decides}
use Rattle.nfs_engine.proofs.SweepStepLemmas.{AllBlocks, blocks-next, blocks-none}
use Rattle.nfs_engine.proofs.shard.Shard.is_page_free.Goals as goal

pub loop-place-init : goal.loop-place-init
loop-place-init c = blocks-none (IsFree c.args.self.now) c.args.sweep.now.file c.args.sweep.now.page

pub loop-place-preserved : goal.loop-place-preserved
loop-place-preserved c =
    blocks-next (IsFree c.args.self.now) c.args.sweep.now.file c.args.sweep.now.page c.loop-place.place c.block.result
    c.block.ensures c.loop-place.invariant (c.is_free.ensures.0 c.if-not-is_free.false)

pub returns-then-not-is_free : goal.returns-then-not-is_free
returns-then-not-is_free c =
    block-held c.args.self.now c.args.sweep.now.file c.args.sweep.now.page c.loop-place.place c.block.result
    c.block.ensures (omega (arith, c.loop-place-test.true)) c.is_free.result c.if-not-is_free.true c.is_free.ensures

pub returns : goal.returns
returns c =
    let whole : c.loop-place.place ≡ 512 = omega arith in
    page-decides c.args.self.now c.args.sweep.now.file c.args.sweep.now.page c.is_free-2.result
    (subst (λ (n : ℕ). AllBlocks (IsFree c.args.self.now) c.args.sweep.now.file c.args.sweep.now.page n) whole
    c.loop-place.invariant)
    (subst (λ (a : Addr). Decides c.is_free-2.result (IsFree c.args.self.now a)) c.map.ensures c.is_free-2.ensures)
