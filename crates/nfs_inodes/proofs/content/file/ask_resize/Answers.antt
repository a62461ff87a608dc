use Rattle.std.proofs.Common.{ap}
use Rattle.std.proofs.lemmas.Result.{err_from_is_err_and}
use Rattle.nfs_objects.specs.Stands.{map_in}
use Rattle.nfs_inodes.proofs.PutObjectLemmas.{object-stops}
use Rattle.nfs_inodes.proofs.ReadBlocksLemmas.{has-pages}
use Rattle.nfs_inodes.proofs.ReaderHaltLemmas.{any-stops}
use Rattle.nfs_inodes.proofs.UsageChangeLemmas.{stands-first}
use Rattle.nfs_inodes.specs.Stops.{counted_at}
use Rattle.nfs_inodes.proofs.content.file.ask_resize.Goals as goal

pub returns-in_err-kept : goal.returns-in_err-kept
returns-in_err-kept c =
    let p = err_from_is_err_and c.from_residual.result c.from_residual.ensures.1 in
    rw (p.1, p.2) (object-stops c.args.draft.now c.args.file.now.known.number _ c.in_err-kept.ensures)

pub ask_sized-requires-clause-stands : goal.ask_sized-requires-clause-stands
ask_sized-requires-clause-stands c = stands-first c.args.draft.now c.requires.none

pub returns-in_err-ask_sized : goal.returns-in_err-ask_sized
returns-in_err-ask_sized c =
    let p = err_from_is_err_and c.from_residual-in_err-ask_sized.result c.from_residual-in_err-ask_sized.ensures.1 in
    rw (p.1, p.2) c.in_err-ask_sized.ensures

pub ask_cut-requires-clause-pages : goal.ask_cut-requires-clause-pages
ask_cut-requires-clause-pages c =
    rw c.pages.ensures (has-pages c.args.draft.now c.args.file.now.known.number c.in_ok-kept.kept.map.now (record {
      inode = c.in_ok-kept.kept.inode.now;
      stands = c.in_ok-kept.ensures.inode;
      content = ap map_in c.in_ok-kept.ensures.content;
    }))

pub ask_cut-requires-clause-stands : goal.ask_cut-requires-clause-stands
ask_cut-requires-clause-stands c = stands-first c.args.draft.now c.requires.none

pub returns-in_err-ask_cut : goal.returns-in_err-ask_cut
returns-in_err-ask_cut c =
    let p = err_from_is_err_and c.from_residual-in_err-ask_cut.result c.from_residual-in_err-ask_cut.ensures.1 in
    let d = c.args.draft.now in
    rw (p.1, p.2) (any-stops d (counted_at d c.args.file.now.known.number) _ c.in_err-ask_cut.ensures)
