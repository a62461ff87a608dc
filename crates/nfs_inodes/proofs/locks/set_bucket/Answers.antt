use Rattle.std.proofs.lemmas.List.{nil_from_length}
use Rattle.std.proofs.lemmas.Result.{err_from_is_err_and}
use Rattle.nfs_inodes.proofs.LocksPlaceLemmas.{files-put, none-set}
use Rattle.nfs_inodes.proofs.locks.set_bucket.Goals as goal

pub returns-in_default : goal.returns-in_default
returns-in_default c =
    none-set c.args.draft.now c.args.files.now
    (nil_from_length c.args.files.now c.in_default.ensures.cases)

pub returns-in_err-bucket : goal.returns-in_err-bucket
returns-in_err-bucket c =
    let p = err_from_is_err_and c.from_residual-in_err-bucket.result c.from_residual-in_err-bucket.ensures.1 in
    rw (p.1, p.2) c.in_err-bucket.ensures

pub returns : goal.returns
returns c =
    files-put c.args.draft.now c.put_locks.new.self c.args.index c.args.files.now c.in-Some.first.now
    c.in-Some.others.now c.in_ok-bucket.bucket c.in_ok-bucket-2.bucket c.requires.own c.in-Some.ensures.cases.0
    (rw c.in_ok-clone.ensures.cases at c.in_ok-bucket.ensures) c.in_ok-bucket-2.ensures c.in_ok-put_locks.ensures.ok
