use Rattle.nfs_inodes.proofs.UsageChangeLemmas.{on-ok}
use Rattle.nfs_inodes.proofs.ExportRootsLemmas.{table-turns}
use Rattle.nfs_inodes.proofs.roots.put_table.Goals as goal

pub returns-clause-turns : goal.returns-clause-turns
returns-clause-turns c =
    on-ok c.put_exports.result (table-turns c.args.draft.now c.put_exports.new.self c.args.table c.requires.follows)
    c.put_exports.ensures.ok
