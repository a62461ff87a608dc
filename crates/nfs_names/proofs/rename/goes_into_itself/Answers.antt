use Rattle.std.proofs.Common.{sym}
use Rattle.nfs_names.proofs.RenameLemmas.{plain-outside}
use Rattle.nfs_names.proofs.rename.goes_into_itself.Goals as goal

pub returns-else-is_directory : goal.returns-else-is_directory
returns-else-is_directory c =
    let r = c.args.renaming.now in
    plain-outside c.args.draft.now r.moved r.to c.requires.moved c.requires.to (sym c.if-is_directory.ensures)
