use Rattle.std.proofs.Common.{◌∙◌, Some, ap, refl, subst, sym}
use Rattle.std.specs.Prelude.{option_copied}
use Rattle.std.proofs.lemmas.Result.{err_from_is_err_and}
use Rattle.nlm_ranges.specs.Buckets.{no_bucket}
use Rattle.nfs_objects.specs.Stands.{bucket_in, stored_bucket}
use Rattle.nfs_inodes.proofs.BucketPutLemmas.{forgotten}
use Rattle.nfs_inodes.proofs.LocksPlaceLemmas.{forgets, locks-keep, locks-stop, none-then, none-there, nothing-changed}
use Rattle.nfs_inodes.specs.Counts.{KeepsInodes}
use Rattle.nfs_inodes.specs.Locks.{HasNone}
use Rattle.nfs_inodes.proofs.locks.forget.Goals as goal
use Rattle.nfs_inodes.proofs.locks.forget.Goals.{In_default, In_default-find}

-- there is no bucket, or the file is not in it
no-bucket : (c : In_default) → HasNone c.args.draft.now c.args.number
no-bucket c =
    none-there c.args.draft.now c.args.draft.now c.args.number c.bucket_index-index.result
    c.bucket_index-index.ensures.index no_bucket
    (c.in_ok-old.ensures ∙ ap (λ o. Some (bucket_in (option_copied o))) c.in_default.is) refl

unlisted : (c : In_default-find) → HasNone c.args.draft.now c.args.number
unlisted c =
    none-there c.args.draft.now c.args.draft.now c.args.number c.bucket_index-index.result
    c.bucket_index-index.ensures.index c.in-Some.old.now
    (c.in_ok-old.ensures ∙ ap (λ o. Some (bucket_in (option_copied o))) c.in-Some.is)
    (sym c.find.ensures ∙ ap option_copied c.in_default-find.is)

pub returns-in_err-old-clause-turns : goal.returns-in_err-old-clause-turns
returns-in_err-old-clause-turns c =
    let p = err_from_is_err_and c.from_residual.result c.from_residual.ensures.1 in
    rw (p.1, p.2) (locks-stop c.args.draft.now c.args.number c.bucket_index-index.result _
    c.bucket_index-index.ensures.index c.in_err-old.ensures)

pub returns-in_default-clause-turns : goal.returns-in_default-clause-turns
returns-in_default-clause-turns c = forgotten c.args.draft.now c.args.number (no-bucket c)

pub returns-in_default-clause-none : goal.returns-in_default-clause-none
returns-in_default-clause-none c = no-bucket c

pub returns-in_default-clause-keeps : goal.returns-in_default-clause-keeps
returns-in_default-clause-keeps c = nothing-changed c.args.draft.now

pub returns-in_default-find-clause-turns : goal.returns-in_default-find-clause-turns
returns-in_default-find-clause-turns c = forgotten c.args.draft.now c.args.number (unlisted c)

pub returns-in_default-find-clause-none : goal.returns-in_default-find-clause-none
returns-in_default-find-clause-none c = unlisted c

pub returns-in_default-find-clause-keeps : goal.returns-in_default-find-clause-keeps
returns-in_default-find-clause-keeps c = nothing-changed c.args.draft.now

pub returns-clause-turns : goal.returns-clause-turns
returns-clause-turns c =
    forgets c.args.draft.now c.put_locks.new.self c.args.number c.bucket_index-index.result
    c.bucket_index-index.ensures.index c.in-Some.old.now
    (c.in_ok-old.ensures ∙ ap (λ o. Some (bucket_in (option_copied o))) c.in-Some.is) c.in_ok-rest.rest
    c.in_ok-rest.ensures c.in_ok-put_locks.ensures.bucket c.in_ok-put_locks.ensures.ok

pub returns-clause-none : goal.returns-clause-none
returns-clause-none c =
    none-then c.args.draft.now c.put_locks.new.self c.args.number c.bucket_index-index.result
    c.bucket_index-index.ensures.index c.in-Some.old.now
    (c.in_ok-old.ensures ∙ ap (λ o. Some (bucket_in (option_copied o))) c.in-Some.is) c.in_ok-rest.rest
    c.in_ok-rest.ensures c.in_ok-put_locks.ensures.ok

pub returns-clause-keeps : goal.returns-clause-keeps
returns-clause-keeps c =
    subst (KeepsInodes c.args.draft.now) (sym c.in_ok-put_locks.ensures.ok)
    (locks-keep c.args.draft.now c.bucket_index-index.result (stored_bucket c.in_ok-rest.rest))
