use Rattle.std.proofs.Common.{◌≡◌, ◌∷◌, arith, rules, subst}
use Rattle.std.proofs.lemmas.List.Sorted.{IsNonDecreasingBy-from_sort_by_key}
use Rattle.std.proofs.lemmas.Result.{err_from_is_err_and}
use Rattle.nlm_ranges.specs.Buckets.{LockedValue, bucket_count}
use Rattle.nfs_objects.specs.Calls.{buckets_below}
use Rattle.nfs_objects.specs.declared.address.Addr.TheVariants as addresses
use Rattle.nfs_inodes.proofs.ReaderHaltLemmas.{exports-stop-at}
use Rattle.nlm_daemon.proofs.FreedFilesLemmas.{AreGathered, gathered-all, gathered-first, gathered-next}
use Rattle.nlm_daemon.proofs.freeing.all_freed.Goals as goal

pub returns-in_err-exports-clause-stops : goal.returns-in_err-exports-clause-stops
returns-in_err-exports-clause-stops c =
    let p = err_from_is_err_and c.from_residual.result c.from_residual.ensures.1 in
    rw (p.1, p.2) (exports-stop-at c.args.draft.now (addresses.Exports ∷ buckets_below bucket_count) _
    c.in_err-exports.ensures.exports)

pub loop-index-init : goal.loop-index-init
loop-index-init c = rw c.new-freed.ensures.items (gathered-first c.args.draft.now c.args.caller_name.now)

pub loop-index-preserved : goal.loop-index-preserved
loop-index-preserved c =
    gathered-next c.args.draft.now c.args.caller_name.now c.in_ok-exports.exports.now c.in_ok-exports.ensures.exports
    c.loop-index.index c.loop-index.freed.items c.add_bucket.new.freed.items c.in_ok-add_bucket.ensures
    c.loop-index.invariant

pub returns-in_err-add_bucket-clause-stops : goal.returns-in_err-add_bucket-clause-stops
returns-in_err-add_bucket-clause-stops c =
    let p = err_from_is_err_and c.from_residual-in_err-add_bucket.result c.from_residual-in_err-add_bucket.ensures.1 in
    rw (p.1, p.2) c.in_err-add_bucket.ensures

pub returns-clause-freed : goal.returns-clause-freed
returns-clause-freed c =
    gathered-all c.args.draft.now c.args.caller_name.now c.loop-index.freed.items c.sort_unstable_by_key.new.self.items
    (subst (λ n. AreGathered c.args.draft.now c.args.caller_name.now n c.loop-index.freed.items)
    (let whole : c.loop-index.index ≡ bucket_count = omega arith in whole) c.loop-index.invariant)
    c.sort_unstable_by_key.ensures.permutation
    (IsNonDecreasingBy-from_sort_by_key (λ (f : LockedValue). f.number) _ c.sort_unstable_by_key.ensures.sorted
    (λ a r q k. search rules))
