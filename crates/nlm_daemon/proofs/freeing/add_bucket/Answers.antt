use Rattle.std.proofs.Common.{◌∙◌, Some, ap}
use Rattle.std.specs.Prelude.{option_copied}
use Rattle.std.proofs.lemmas.Result.{err_from_is_err_and}
use Rattle.nlm_ranges.proofs.BucketFilesLemmas.{no-files}
use Rattle.nlm_ranges.specs.Buckets.{no_bucket}
use Rattle.nfs_objects.specs.Stands.{bucket_in}
use Rattle.nfs_objects.specs.declared.address.Addr.TheVariants as addresses
use Rattle.nfs_inodes.proofs.ReaderHaltLemmas.{lacking-stops}
use Rattle.nlm_daemon.proofs.FilesByNumberLemmas.{adds-first}
use Rattle.nlm_daemon.proofs.BucketWishLemmas.{bucket-stops}
use Rattle.nlm_daemon.proofs.freeing.add_bucket.Goals as goal

pub returns-in_err-bucket : goal.returns-in_err-bucket
returns-in_err-bucket c =
    let p = err_from_is_err_and c.from_residual.result c.from_residual.ensures.1 in
    rw (p.1, p.2)
    (bucket-stops c.args.draft.now c.args.index _ c.requires
    (lacking-stops c.args.draft.now (addresses.Locks c.args.index) _ c.in_err-bucket.ensures))

pub returns-in_default : goal.returns-in_default
returns-in_default c = record {
  bucket = no_bucket;
  known = c.in_ok-bucket.ensures ∙ ap (λ o. Some (bucket_in (option_copied o))) c.in_default.is;
  is_bucket = no-files;
  adds = adds-first c.args.exports.now c.args.caller_name.now c.args.freed.now.items;
}

pub returns : goal.returns
returns c = record {
  bucket = c.in-Some.bucket.now;
  known = c.in_ok-bucket.ensures ∙ ap (λ o. Some (bucket_in (option_copied o))) c.in-Some.is;
  is_bucket = c.files.ensures.bucket;
  adds = rw c.files.ensures.files at c.in_ok-add_freed.ensures;
}
