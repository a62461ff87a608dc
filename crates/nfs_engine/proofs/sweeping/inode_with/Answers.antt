use Rattle.std.proofs.Common.{sym, ◌∙◌}
use Rattle.nfs_engine.proofs.DeadInodeLemmas.{inode-none, inode-some}
use Rattle.nfs_engine.proofs.sweeping.inode_with.Goals as goal

pub returns-then-is_none : goal.returns-then-is_none
returns-then-is_none c =
    sym (inode-none c.args.inode.now (record c.args.map.now { pages = c.args.pages })
    (sym c.is_none.ensures ∙ c.if-is_none.true))

pub returns : goal.returns
returns c =
    c.in_ok-inode_left.ensures
    ∙ sym (inode-some c.args.inode.now (record c.args.map.now { pages = c.args.pages })
    (sym c.is_none.ensures ∙ c.if-is_none.false))
