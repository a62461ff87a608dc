use Rattle.std.proofs.Common.{refl}
use Rattle.nfs_inodes.proofs.GatherLemmas.{gathers-again, gathers-more}
use Rattle.nfs_inodes.proofs.gather.WantedObjects.add.Goals as goal

pub returns-in_ok-push : goal.returns-in_ok-push
returns-in_ok-push c = λ entries e number gathers.
    gathers-more c.args.draft.now entries e c.args.number number c.args.self.now _ gathers
    c.in_ok-insert.ensures.keys c.in-Some.wish c.in_ok-push.ensures.items
    (rw c.if-branch.true at c.in_ok-insert.ensures.added) c.in-Some.ensures.0 c.in-Some.ensures.1 c.requires

pub returns-else-branch : goal.returns-else-branch
returns-else-branch c = λ entries e number gathers.
    gathers-again c.args.draft.now entries e c.args.number number c.args.self.now _ gathers
    c.in_ok-insert.ensures.keys refl (rw c.if-branch.false at c.in_ok-insert.ensures.added)
