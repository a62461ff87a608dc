use Rattle.std.proofs.Common.{◌%◌, ◌∙◌, ap}
use Rattle.std.proofs.lemmas.Result.{err_from_is_err_and}
use Rattle.nlm_ranges.specs.Buckets.{bucket_count}
use Rattle.nfs_inodes.proofs.LocksPlaceLemmas.{bucket-stops, put-turns}
use Rattle.nfs_inodes.proofs.locks.set_locks.Goals as goal

pub returns-in_err-bucket : goal.returns-in_err-bucket
returns-in_err-bucket c =
    let p = err_from_is_err_and c.from_residual.result c.from_residual.ensures.1 in
    rw (p.1, p.2) (bucket-stops c.args.draft.now c.args.file.number c.bucket_index-index.result _
    (c.bucket_index-index.ensures.index ∙ ap (λ n. n % bucket_count) c.number.ensures) c.in_err-bucket.ensures)

pub returns : goal.returns
returns c =
    let is = c.in_ok-bucket.ensures in
    put-turns c.args.draft.now c.put_locks.new.self c.args.file.number c.bucket_index-index.result
    (c.bucket_index-index.ensures.index ∙ ap (λ n. n % bucket_count) c.number.ensures) is.old is.known
    c.args.file.export c.args.file.file c.in_ok-bucket.bucket is.inserted is.bucket c.in_ok-put_locks.ensures.ok
