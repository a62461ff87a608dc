use Rattle.std.proofs.Common.{arith}
use Rattle.nfs_inodes.proofs.OnePageLemmas.{last-none, last-result}
use Rattle.nfs_inodes.proofs.content.cut.cut_last.Goals as goal

pub returns-then-size-eq0 : goal.returns-then-size-eq0
returns-then-size-eq0 c =
    last-none c.args.draft.now c.args.number c.args.size c.args.pages c.requires.pages (omega arith)

pub returns-else-size-eq0 : goal.returns-else-size-eq0
returns-else-size-eq0 c =
    last-result c.args.draft.now c.cut_one.new.draft c.args.number c.args.size c.cut_one.result c.cut_one.ensures
