use Rattle.std.proofs.Common.{◌≡◌, ◌∙◌, ap, arith, subst}
use Rattle.std.proofs.lemmas.Result.{err_from_is_err_and}
use Rattle.nlm_ranges.specs.Buckets.{bucket_count}
use Rattle.nfs_objects.specs.Values.{ModesValue}
use Rattle.nfs_objects.specs.declared.address.Addr.TheVariants as addresses
use Rattle.nfs_inodes.proofs.ReaderHaltLemmas.{exports-stop-at, lacking-first-at}
use Rattle.nlm_daemon.proofs.FreeAllDraftLemmas.{ArePut, put-first, put-frees, put-next}
use Rattle.nlm_daemon.proofs.NlmHandleLemmas.{first-past}
use Rattle.nlm_daemon.proofs.BucketWishLemmas.{all_places, buckets-stop, put-stops}
use Rattle.nlm_daemon.proofs.freeing.free_all.Goals as goal

pub returns-in_err-exports-clause-frees : goal.returns-in_err-exports-clause-frees
returns-in_err-exports-clause-frees c =
    let p = err_from_is_err_and c.from_residual.result c.from_residual.ensures.1 in
    rw (p.1, p.2) (exports-stop-at c.args.draft.now all_places _ c.in_err-exports.ensures.exports)

pub returns-in_err-exports-clause-first : goal.returns-in_err-exports-clause-first
returns-in_err-exports-clause-first c =
    let p = err_from_is_err_and c.from_residual.result c.from_residual.ensures.1 in
    rw (p.1, p.2)
    (lacking-first-at (Unit {0}) c.args.draft.now addresses.Exports _ c.in_err-exports.ensures.reads)

pub returns-in_err-ask_buckets-clause-frees : goal.returns-in_err-ask_buckets-clause-frees
returns-in_err-ask_buckets-clause-frees c =
    let p = err_from_is_err_and c.from_residual-in_err-ask_buckets.result
    c.from_residual-in_err-ask_buckets.ensures.1 in
    rw (p.1, p.2) (buckets-stop c.args.draft.now _ c.in_err-ask_buckets.ensures)

pub returns-in_err-ask_buckets-clause-first : goal.returns-in_err-ask_buckets-clause-first
returns-in_err-ask_buckets-clause-first c =
    first-past c.args.draft.now.modes c.args.draft.now.view _ _ (c.in_ok-exports.ensures.first c.requires.none) _

pub returns-in_err-freed-clause-frees : goal.returns-in_err-freed-clause-frees
returns-in_err-freed-clause-frees c =
    let p = err_from_is_err_and c.from_residual-in_err-freed.result c.from_residual-in_err-freed.ensures.1 in
    rw (p.1, p.2) c.in_err-freed.ensures.stops

pub returns-in_err-freed-clause-first : goal.returns-in_err-freed-clause-first
returns-in_err-freed-clause-first c =
    first-past c.args.draft.now.modes c.args.draft.now.view _ _ (c.in_ok-exports.ensures.first c.requires.none) _

pub loop-index-init : goal.loop-index-init
loop-index-init c =
    put-first c.args.draft.now c.settle_all.new.draft c.in_ok-freed.freed.items c.in_ok-files.files.items
    (rw c.deref.ensures.value at c.in_ok-files.ensures)

pub put_bucket-requires : goal.put_bucket-requires
put_bucket-requires c = ap (λ (m : ModesValue). m.locks) c.loop-index.invariant.sending.turns.modes ∙ c.requires.alone

pub loop-index-preserved : goal.loop-index-preserved
loop-index-preserved c =
    put-next c.args.draft.now c.args.caller_name.now c.in_ok-freed.freed.items c.in_ok-freed.ensures.freed
    c.in_ok-files.files.items c.loop-index.index c.loop-index.draft c.put_bucket.new.draft c.loop-index.invariant
    (rw c.deref-in-loop-index.ensures.value at c.in_ok-put_bucket.ensures)

pub returns-in_err-put_bucket-clause-frees : goal.returns-in_err-put_bucket-clause-frees
returns-in_err-put_bucket-clause-frees c =
    let p = err_from_is_err_and c.from_residual-in_err-put_bucket.result c.from_residual-in_err-put_bucket.ensures.1 in
    rw (p.1, p.2)
    (put-stops c.args.draft.now c.loop-index.draft c.loop-index.invariant.sending.turns.view
    c.loop-index.invariant.sending.turns.modes c.loop-index.index _ (omega (arith, c.loop-index-test.true))
    c.in_err-put_bucket.ensures)

pub returns-in_err-put_bucket-clause-first : goal.returns-in_err-put_bucket-clause-first
returns-in_err-put_bucket-clause-first c =
    first-past c.args.draft.now.modes c.args.draft.now.view _ _ (c.in_ok-exports.ensures.first c.requires.none) _

pub returns-in_err-files-clause-first : goal.returns-in_err-files-clause-first
returns-in_err-files-clause-first c =
    first-past c.args.draft.now.modes c.args.draft.now.view _ _ (c.in_ok-exports.ensures.first c.requires.none) _

pub returns-clause-frees : goal.returns-clause-frees
returns-clause-frees c =
    put-frees c.args.draft.now c.args.caller_name.now c.in_ok-freed.freed.items c.in_ok-freed.ensures.freed
    c.in_ok-files.files.items c.loop-index.draft _
    (subst (λ n. ArePut c.args.draft.now c.in_ok-freed.freed.items c.in_ok-files.files.items n c.loop-index.draft)
    (let whole : c.loop-index.index ≡ bucket_count = omega arith in whole) c.loop-index.invariant)

pub returns-clause-first : goal.returns-clause-first
returns-clause-first c =
    first-past c.args.draft.now.modes c.args.draft.now.view _ _ (c.in_ok-exports.ensures.first c.requires.none) _
