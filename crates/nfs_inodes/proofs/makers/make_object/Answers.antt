use Rattle.std.proofs.Common.{◌++◌}
use Rattle.std.proofs.lemmas.Result.{err_from_is_err_and}
use Rattle.nfs_objects.proofs.KnowsLemmas.{fresh-stops}
use Rattle.nfs_objects.specs.Calls.{usages_of}
use Rattle.nfs_inodes.specs.Entered.{grown_at}
use Rattle.nfs_inodes.proofs.makers.make_object.Goals as goal

pub returns-in_err-reserved-clause-turns : goal.returns-in_err-reserved-clause-turns
returns-in_err-reserved-clause-turns c =
    let p = err_from_is_err_and c.from_residual.result c.from_residual.ensures.1 in
    rw (p.1, p.2) (fresh-stops c.args.draft.now
    (grown_at c.args.draft.now c.args.directory.now.known.number c.args.name.now c.args.cookie
    ++ usages_of c.args.directory.now.known.export 64) _ c.in_err-reserved.ensures)
