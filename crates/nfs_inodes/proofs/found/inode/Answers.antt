use Rattle.std.proofs.Common.{inl}
use Rattle.std.proofs.lemmas.Result.{err_from_is_err_and}
use Rattle.nfs_objects.specs.Calls.{addresses_of}
use Rattle.nfs_objects.specs.declared.address.Addr.TheVariants as addresses
use Rattle.nfs_inodes.proofs.ReaderHaltLemmas.{exports-stop-at, lacking-stops}
use Rattle.nfs_inodes.proofs.found.inode.Goals as goal

pub returns-in_err-exports-clause-inode : goal.returns-in_err-exports-clause-inode
returns-in_err-exports-clause-inode c =
    let p = err_from_is_err_and c.from_residual.result c.from_residual.ensures.1 in
    rw (p.1, p.2) (exports-stop-at c.args.draft.now (addresses_of c.args.draft.now.view c.args.number) _
    c.in_err-exports.ensures.exports)

pub returns-in_err-exports-clause-reads : goal.returns-in_err-exports-clause-reads
returns-in_err-exports-clause-reads c =
    let p = err_from_is_err_and c.from_residual.result c.from_residual.ensures.1 in
    rw (p.1, p.2) (inl c.in_err-exports.ensures.reads)

pub returns-in_err-object-clause-inode : goal.returns-in_err-object-clause-inode
returns-in_err-object-clause-inode c =
    let p = err_from_is_err_and c.from_residual-in_err-object.result c.from_residual-in_err-object.ensures.1 in
    rw (p.1, p.2) (lacking-stops c.args.draft.now (addresses.Inode c.args.number) _ c.in_err-object.ensures)
