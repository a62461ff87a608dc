use Rattle.std.proofs.Common.{◌∷◌, ◌∙◌, Some, ap, sym}
use Rattle.std.specs.Prelude.{option_copied}
use Rattle.std.proofs.lemmas.Result.{err_from_is_err_and}
use Rattle.nlm_ranges.specs.Buckets.{no_bucket}
use Rattle.nfs_objects.specs.Stands.{bucket_in}
use Rattle.nfs_objects.specs.declared.address.Addr.TheVariants as addresses
use Rattle.nfs_inodes.proofs.ReaderHaltLemmas.{exports-stop-at}
use Rattle.nlm_daemon.proofs.FoundGrantLemmas.{finds-it, finds-no_number, finds-none, finds-other, grant-stops}
use Rattle.nlm_daemon.proofs.AnsweredGrantLemmas.{none-first}
use Rattle.nlm_daemon.specs.Granted.{grant_places}
use Rattle.nlm_daemon.proofs.granting.answered.Goals as goal

pub returns-in_default : goal.returns-in_default
returns-in_default c = finds-no_number c.args.draft.now c.args.cookie.now c.in_default.ensures

pub returns-in_err-exports : goal.returns-in_err-exports
returns-in_err-exports c =
    let p = err_from_is_err_and c.from_residual.result c.from_residual.ensures.1 in
    rw (p.1, p.2) (exports-stop-at c.args.draft.now (addresses.Exports ∷ grant_places c.args.cookie.now) _
    c.in_err-exports.ensures.exports)

pub returns-in_err-bucket : goal.returns-in_err-bucket
returns-in_err-bucket c =
    let p = err_from_is_err_and c.from_residual-in_err-bucket.result c.from_residual-in_err-bucket.ensures.1 in
    let n = c.in-Some.ensures in
    rw (p.1, p.2) (grant-stops c.args.draft.now c.args.cookie.now c.in-Some.number n.0 n.1 n.2 c.bucket_index.result _
    c.bucket_index.ensures.index c.in_err-bucket.ensures)

pub returns-in_default-2 : goal.returns-in_default-2
returns-in_default-2 c =
    let n = c.in-Some.ensures in
    finds-none c.args.draft.now c.args.cookie.now c.in-Some.number n.0 n.1 n.2 c.in_ok-exports.exports.now
    c.in_ok-exports.ensures.exports c.bucket_index.result c.bucket_index.ensures.index no_bucket
    (c.in_ok-bucket.ensures ∙ ap (λ o. Some (bucket_in (option_copied o))) c.in_default-2.is)
    (none-first c.in_ok-exports.exports.now c.in-Some.number)

pub returns-in_default-3 : goal.returns-in_default-3
returns-in_default-3 c =
    let n = c.in-Some.ensures in
    finds-none c.args.draft.now c.args.cookie.now c.in-Some.number n.0 n.1 n.2 c.in_ok-exports.exports.now
    c.in_ok-exports.ensures.exports c.bucket_index.result c.bucket_index.ensures.index c.in-Some-2.bucket.now
    (c.in_ok-bucket.ensures ∙ ap (λ o. Some (bucket_in (option_copied o))) c.in-Some-2.is)
    (rw (c.in_default-3.is, c.files.ensures.files) at c.in_ok-pending.ensures)

pub returns-then-eq : goal.returns-then-eq
returns-then-eq c =
    let n = c.in-Some.ensures in
    finds-it c.args.draft.now c.args.cookie.now c.in-Some.number n.0 n.1 n.2 c.in_ok-exports.exports.now
    c.in_ok-exports.ensures.exports c.bucket_index.result c.bucket_index.ensures.index c.in-Some-2.bucket.now
    (c.in_ok-bucket.ensures ∙ ap (λ o. Some (bucket_in (option_copied o))) c.in-Some-2.is) c.files.ensures.bucket
    c.in-Some-3.pending (rw (c.in-Some-3.is, c.files.ensures.files) at c.in_ok-pending.ensures)
    (sym (rw (c.host.ensures, c.deref.ensures, c.ctx.ensures) at c.if-eq.ensures))

pub returns-else-eq : goal.returns-else-eq
returns-else-eq c =
    let n = c.in-Some.ensures in
    finds-other c.args.draft.now c.args.cookie.now c.in-Some.number n.0 n.1 n.2 c.in_ok-exports.exports.now
    c.in_ok-exports.ensures.exports c.bucket_index.result c.bucket_index.ensures.index c.in-Some-2.bucket.now
    (c.in_ok-bucket.ensures ∙ ap (λ o. Some (bucket_in (option_copied o))) c.in-Some-2.is) c.files.ensures.bucket
    c.in-Some-3.pending (rw (c.in-Some-3.is, c.files.ensures.files) at c.in_ok-pending.ensures)
    (sym (rw (c.host.ensures, c.deref.ensures, c.ctx.ensures) at c.if-eq.ensures))
