use Rattle.std.proofs.Common.{sym, subst}
use Rattle.std.specs.Prelude.{option_copied}
use Rattle.std.proofs.lemmas.Result.{err_from_is_err_and}
use Rattle.nlm_ranges.specs.Buckets.{IsInserted}
use Rattle.nfs_objects.specs.Stands.{bucket_in}
use Rattle.nfs_objects.specs.declared.address.Addr.TheVariants as addresses
use Rattle.nfs_inodes.proofs.ReaderHaltLemmas.{lacking-stops}
use Rattle.nfs_inodes.proofs.locks.bucket_with.Goals as goal
use Rattle.nfs_inodes.proofs.locks.bucket_with.Goals.{After-files-files}
use Rattle.nfs_inodes.proofs.locks.bucket_with.Goals.{in-Some+in_ok-bucket-in-Some, in-None+in_ok-bucket-in-None}

-- the file is in the bucket
inserted : (c : After-files-files) →
    IsInserted (bucket_in (option_copied c.in_ok-old.field-0)) c.args.file c.match-branch-2.bucket
inserted c = elim c.match-branch-2.branch [
  | in-Some+in_ok-bucket-in-Some w ↦
      subst (λ o. IsInserted (bucket_in (option_copied o)) c.args.file c.match-branch-2.bucket) (sym w.in-Some.is)
      (subst (IsInserted w.in-Some.old.now c.args.file) (sym w.bucket-is) w.in_ok-bucket-in-Some.ensures)
  | in-None+in_ok-bucket-in-None w ↦
      subst (λ o. IsInserted (bucket_in (option_copied o)) c.args.file c.match-branch-2.bucket) (sym w.in-None.is)
      (subst (λ b. IsInserted b c.args.file c.match-branch-2.bucket) w.new.ensures
      (subst (IsInserted w.new.result c.args.file) (sym w.bucket-is) w.in_ok-bucket-in-None.ensures))
]

pub returns-in_err-old : goal.returns-in_err-old
returns-in_err-old c =
    let p = err_from_is_err_and c.from_residual.result c.from_residual.ensures.1 in
    rw (p.1, p.2) (lacking-stops c.args.draft.now (addresses.Locks c.args.index) _ c.in_err-old.ensures)

pub returns : goal.returns
returns c = record {
  old = bucket_in (option_copied c.in_ok-old.field-0);
  known = c.in_ok-old.ensures;
  inserted = inserted c;
  bucket = c.files-files.ensures.bucket;
}
