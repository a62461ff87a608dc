use Rattle.std.proofs.Common.{◌∷◌, ◌∙◌, None, Some, ap, cond, refl, sym}
use Rattle.std.specs.Prelude.{option_copied}
use Rattle.std.proofs.lemmas.Result.{err_from_is_err_and}
use Rattle.nlm_ranges.specs.Buckets.{no_bucket}
use Rattle.nlm_ranges.specs.Files.{no_file}
use Rattle.nfs_objects.specs.Calls.{locks_at}
use Rattle.nfs_objects.specs.Stands.{bucket_in, lives_in}
use Rattle.nfs_objects.specs.declared.address.Addr.TheVariants as addresses
use Rattle.nfs_inodes.proofs.ReaderHaltLemmas.{exports-stop-at}
use Rattle.nfs_inodes.proofs.LocksPlaceLemmas.{file-known, locks-stop-behind}
use Rattle.nfs_inodes.proofs.locks.locks_of.Goals as goal

pub returns-in_err-exports : goal.returns-in_err-exports
returns-in_err-exports c =
    let p = err_from_is_err_and c.from_residual.result c.from_residual.ensures.1 in
    rw (p.1, p.2) (exports-stop-at c.args.draft.now (addresses.Exports ∷ locks_at c.args.number) _
    c.in_err-exports.ensures.exports)

pub returns-in_err-bucket : goal.returns-in_err-bucket
returns-in_err-bucket c =
    let p = err_from_is_err_and c.from_residual-in_err-bucket.result c.from_residual-in_err-bucket.ensures.1 in
    rw (p.1, p.2) (locks-stop-behind c.args.draft.now c.args.number c.bucket_index.result _ c.bucket_index.ensures.index
    c.in_err-bucket.ensures)

pub returns-in_default : goal.returns-in_default
returns-in_default c =
    file-known c.args.draft.now c.args.draft.now c.args.number c.bucket_index.result c.bucket_index.ensures.index
    no_bucket (c.in_ok-bucket.ensures ∙ ap (λ o. Some (bucket_in (option_copied o))) c.in_default.is)
    c.in_ok-exports.exports.now c.in_ok-exports.ensures.exports None refl no_file refl

pub returns-in_default-find : goal.returns-in_default-find
returns-in_default-find c =
    file-known c.args.draft.now c.args.draft.now c.args.number c.bucket_index.result c.bucket_index.ensures.index
    c.in-Some.bucket.now (c.in_ok-bucket.ensures ∙ ap (λ o. Some (bucket_in (option_copied o))) c.in-Some.is)
    c.in_ok-exports.exports.now c.in_ok-exports.ensures.exports None
    (sym c.find.ensures ∙ ap option_copied c.in_default-find.is) no_file refl

pub returns-then-lives : goal.returns-then-lives
returns-then-lives c =
    file-known c.args.draft.now c.args.draft.now c.args.number c.bucket_index.result c.bucket_index.ensures.index
    c.in-Some.bucket.now (c.in_ok-bucket.ensures ∙ ap (λ o. Some (bucket_in (option_copied o))) c.in-Some.is)
    c.in_ok-exports.exports.now c.in_ok-exports.ensures.exports (Some c.in-Some-find.file.now)
    (sym c.find.ensures ∙ ap option_copied c.in-Some-find.is) c.file.result.now
    (ap (λ b. cond b c.in-Some-find.file.now.file no_file)
    (ap (lives_in c.in_ok-exports.exports.now) (sym c.export.ensures) ∙ sym c.if-lives.ensures) ∙ sym c.file.ensures)

pub returns-else-lives : goal.returns-else-lives
returns-else-lives c =
    file-known c.args.draft.now c.args.draft.now c.args.number c.bucket_index.result c.bucket_index.ensures.index
    c.in-Some.bucket.now (c.in_ok-bucket.ensures ∙ ap (λ o. Some (bucket_in (option_copied o))) c.in-Some.is)
    c.in_ok-exports.exports.now c.in_ok-exports.ensures.exports (Some c.in-Some-find.file.now)
    (sym c.find.ensures ∙ ap option_copied c.in-Some-find.is) no_file
    (ap (λ b. cond b c.in-Some-find.file.now.file no_file)
    (ap (lives_in c.in_ok-exports.exports.now) (sym c.export.ensures) ∙ sym c.if-lives.ensures))
