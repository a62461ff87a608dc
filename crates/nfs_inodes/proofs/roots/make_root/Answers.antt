use Rattle.nfs_inodes.proofs.ExportRootsLemmas.{root-others, root-table, root-turns}
use Rattle.nfs_inodes.proofs.roots.make_root.Goals as goal

pub returns-clause-turns : goal.returns-clause-turns
returns-clause-turns c =
    root-turns c.args.draft.now c.recount.new.draft c.put.new.self c.args.export c.args.reserved _ _
    c.in_ok-root.root c.of_one.result (rw (c.now-time.ensures, c.ctx-ctx.ensures) at c.in_ok-root.ensures)
    c.requires.exported c.requires.vacant
    (rw c.none.ensures at c.in_ok-recount.ensures.turns) c.of_one.ensures c.in_ok-recount.ensures.keeps
    c.in_ok-put.ensures.ok c.in_ok-put.ensures.fits

pub returns-clause-others : goal.returns-clause-others
returns-clause-others c =
    root-others c.args.draft.now c.recount.new.draft c.put.new.self c.args.reserved.number c.in_ok-root.root
    c.in_ok-recount.ensures.keeps c.in_ok-put.ensures.ok

pub returns-clause-table : goal.returns-clause-table
returns-clause-table c =
    root-table c.args.draft.now c.recount.new.draft c.put.new.self c.args.reserved.number c.in_ok-root.root
    c.in_ok-recount.ensures.keeps c.in_ok-put.ensures.ok
