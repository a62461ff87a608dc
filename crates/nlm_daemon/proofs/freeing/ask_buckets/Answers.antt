use Rattle.std.proofs.Common.{◌≡◌, ◌<◌, [], ℕ, IsSome, arith, subst}
use Rattle.nlm_ranges.specs.Buckets.{bucket_count}
use Rattle.nfs_objects.specs.Calls.{buckets_below}
use Rattle.nfs_objects.specs.Values.{known_at}
use Rattle.nfs_objects.specs.declared.address.Addr.TheVariants as addresses
use Rattle.nfs_inodes.proofs.WishesLemmas.{asked-result}
use Rattle.nfs_inodes.specs.Asking.{AsksFor}
use Rattle.nlm_daemon.proofs.BucketWishLemmas.{IsBelow, below-asking, below-known, below-more, below-none}
use Rattle.nlm_daemon.proofs.freeing.ask_buckets.Goals as goal

pub loop-index-init : goal.loop-index-init
loop-index-init c = rw c.new-asking.ensures (below-none c.args.draft.now)

pub loop-index-preserved : goal.loop-index-preserved
loop-index-preserved c =
    below-more c.args.draft.now c.loop-index.index c.loop-index.asking.asked.items c.add.new.self.asked.items
    c.loop-index.invariant c.in_ok-add.ensures.ok

pub returns : goal.returns
returns c =
    let d = c.args.draft.now in
    let items = c.loop-index.asking.asked.items in
    let asks : AsksFor d (IsBelow bucket_count) (IsBelow bucket_count) [] items =
    subst (λ n. AsksFor d (IsBelow n) (IsBelow n) [] items)
    (let whole : c.loop-index.index ≡ bucket_count = omega arith in whole) c.loop-index.invariant in
    asked-result d (buckets_below bucket_count) items
    ((index : ℕ) → index < bucket_count → IsSome (known_at d (addresses.Locks index))) c.ask.result
    c.ask.ensures.nothing
    c.ask.ensures.stops (below-asking d items asks) (below-known d items asks)
