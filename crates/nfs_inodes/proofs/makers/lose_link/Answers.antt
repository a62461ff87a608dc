use Rattle.std.proofs.Common.{◌-◌, ◌++◌, cond, sym, subst}
use Rattle.std.specs.Prelude.{MatchResult}
use Rattle.std.proofs.lemmas.Bool.{le-leb, lt-leb}
use Rattle.nfs_machine.specs.Shown.{touched}
use Rattle.nfs_machine.specs.Times.{time_of}
use Rattle.nfs_objects.specs.Calls.{locks_at}
use Rattle.nfs_objects.specs.Edits.{edited}
use Rattle.nfs_objects.specs.Knows.{Turns}
use Rattle.nfs_inodes.specs.Makes.{removed}
use Rattle.nfs_inodes.specs.Stops.{StopsAt, counted_at}
use Rattle.nfs_inodes.proofs.LastNameAsksLemmas.{locked-result}
use Rattle.nfs_inodes.proofs.makers.lose_link.Goals as goal

pub returns-then-links-le1 : goal.returns-then-links-le1
returns-then-links-le1 c =
    subst (λ b. MatchResult c.free.result
    (λ _. Turns c.args.draft.now c.free.new.draft (λ k. cond b (removed c.args.number k)
    (edited k c.args.number (λ o. touched o (time_of c.args.draft.now.ctx.moment)) (λ l. l - 1))))
    (StopsAt c.args.draft.now (counted_at c.args.draft.now c.args.number ++ locks_at c.args.number)))
    (sym (le-leb c.args.links 1 c.if-links-le1.true)) c.free.ensures

pub returns-else-links-le1 : goal.returns-else-links-le1
returns-else-links-le1 c =
    subst (λ b. MatchResult c.unlink.result
    (λ _. Turns c.args.draft.now c.unlink.new.draft (λ k. cond b (removed c.args.number k)
    (edited k c.args.number (λ o. touched o (time_of c.args.draft.now.ctx.moment)) (λ l. l - 1))))
    (StopsAt c.args.draft.now (counted_at c.args.draft.now c.args.number ++ locks_at c.args.number)))
    (sym (lt-leb c.args.links 1 c.if-links-le1.false))
    (locked-result c.args.draft.now c.args.number (λ _. Turns c.args.draft.now c.unlink.new.draft
    (λ k. edited k c.args.number (λ o. touched o (time_of c.args.draft.now.ctx.moment)) (λ l. l - 1)))
    c.unlink.result c.unlink.ensures)
