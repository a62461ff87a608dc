use Rattle.std.proofs.lemmas.Result.{err_from_is_err_and}
use Rattle.nfs_objects.specs.Sums.{group_of}
use Rattle.nfs_objects.specs.declared.address.Addr.TheVariants as addresses
use Rattle.nfs_inodes.proofs.ReaderHaltLemmas.{lacking-stops}
use Rattle.nfs_inodes.proofs.usage.counted.Goals as goal

pub returns-in_err-usage : goal.returns-in_err-usage
returns-in_err-usage c =
    let p = err_from_is_err_and c.from_residual.result c.from_residual.ensures.1 in
    rw (p.1, p.2) (lacking-stops c.args.draft.now (addresses.Usage c.args.before.export (group_of c.args.number)) _
    (rw c.group_of.ensures at c.in_err-usage.ensures))
