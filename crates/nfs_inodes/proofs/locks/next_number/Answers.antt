use Rattle.std.proofs.Common.{◌∙◌, Some, ap, sym}
use Rattle.std.specs.Prelude.{option_copied}
use Rattle.std.proofs.lemmas.Result.{err_from_is_err_and}
use Rattle.nfs_objects.specs.Stands.{bucket_in}
use Rattle.nfs_inodes.proofs.LocksPlaceLemmas.{locks-stop, number-known}
use Rattle.nfs_inodes.proofs.locks.next_number.Goals as goal

pub returns-in_err-bucket : goal.returns-in_err-bucket
returns-in_err-bucket c =
    let p = err_from_is_err_and c.from_residual.result c.from_residual.ensures.1 in
    rw (p.1, p.2) (locks-stop c.args.draft.now c.args.file c.bucket_index-index.result _
    c.bucket_index-index.ensures.index c.in_err-bucket.ensures)

pub returns-in-Some : goal.returns-in-Some
returns-in-Some c =
    number-known c.args.draft.now c.args.draft.now c.args.file c.bucket_index-index.result
    c.bucket_index-index.ensures.index c.in-Some.bucket.now
    (c.in_ok-bucket.ensures ∙ ap (λ o. Some (bucket_in (option_copied o))) c.in-Some.is) c.next_number.result
    c.next_number.ensures

pub returns-in-None : goal.returns-in-None
returns-in-None c =
    number-known c.args.draft.now c.args.draft.now c.args.file c.bucket_index-index.result
    c.bucket_index-index.ensures.index c.new.result
    (c.in_ok-bucket.ensures ∙ ap (λ o. Some (bucket_in (option_copied o))) c.in-None.is ∙ ap Some (sym c.new.ensures))
    c.next_number-in-None-2.result
    c.next_number-in-None-2.ensures
