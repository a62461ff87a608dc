use Rattle.std.proofs.Common.{◌≡◌, ◌≤◌, ◌⊎◌, [], Some, MatchResult, length, ap, subst, sym, ◌∙◌}
use Rattle.std.proofs.lemmas.Result.{err_from_is_err_and}
use Rattle.nfs_machine.specs.Times.{time_of}
use Rattle.nfs_objects.specs.Asks.{AreFirst, WantsNumbers}
use Rattle.nfs_objects.specs.Calls.{root_usages}
use Rattle.nfs_objects.specs.Knows.{Turns}
use Rattle.nfs_objects.specs.Roots.{root_choice}
use Rattle.nfs_inodes.specs.Roots.{roots_made}
use Rattle.nfs_inodes.specs.Stops.{StopsAt}
use Rattle.nfs_mount.proofs.ReplaceLemmas.{awaits-roots, exhausted-replaces, has-numbers, made-follows, made-replaces}
use Rattle.nfs_mount.proofs.ReplaceLemmas.{roots-stop, usages-stop}
use Rattle.nfs_mount.specs.Replaces.{AwaitsRoots}
use Rattle.nfs_mount.proofs.replace.replace.Goals as goal

pub returns-then-is_exhausted-clause-replaces : goal.returns-then-is_exhausted-clause-replaces
returns-then-is_exhausted-clause-replaces c =
    exhausted-replaces c.args.draft.now c.requires.begins.none c.in_ok-table.table
    (c.in_ok-export_table.ensures.known ∙ ap Some (sym c.in_ok-table.ensures)) c.args.exports.now
    c.list-list.ensures.faultless (sym c.if-is_exhausted.ensures)

pub fresh_all-requires : goal.fresh_all-requires
fresh_all-requires c =
    let counted = c.new_count.ensures.count in
    subst (λ n. (c.args.draft.now.view.reserved ≡ []) ⊎ (n ≤ length c.args.draft.now.view.reserved)) (sym counted)
    (has-numbers c.args.draft.now c.requires.begins.none c.in_ok-table.table
    (c.in_ok-export_table.ensures.known ∙ ap Some (sym c.in_ok-table.ensures)) c.args.exports.now
    (sym c.if-is_exhausted.ensures) (subst (λ n. n ≤ 64) counted c.new_count.ensures.few) c.requires.numbers)

pub returns-in_err-roots-clause-replaces : goal.returns-in_err-roots-clause-replaces
returns-in_err-roots-clause-replaces c =
    let p = err_from_is_err_and c.from_residual-in_err-roots.result c.from_residual-in_err-roots.ensures.1 in
    let counted = c.new_count.ensures.count in
    rw (p.1, p.2)
    (roots-stop c.args.draft.now c.requires.begins.none c.in_ok-table.table
    (c.in_ok-export_table.ensures.known ∙ ap Some (sym c.in_ok-table.ensures)) c.args.exports.now
    (sym c.if-is_exhausted.ensures) (subst (λ n. n ≤ 64) counted c.new_count.ensures.few) c.in_err-roots.field-0.0
    (subst (λ n. WantsNumbers c.args.draft.now n c.in_err-roots.field-0.0) counted c.in_err-roots.ensures.numbers))

pub returns-in_err-ask_roots-clause-replaces : goal.returns-in_err-ask_roots-clause-replaces
returns-in_err-ask_roots-clause-replaces c =
    let p = err_from_is_err_and c.from_residual-in_err-ask_roots.result c.from_residual-in_err-ask_roots.ensures.1 in
    let counted = c.new_count.ensures.count in
    let roots = c.in_ok-roots.roots.now in
    let first = subst (λ n. AreFirst c.args.draft.now n roots) counted c.in_ok-roots.ensures.numbers in
    rw (p.1, p.2)
    (usages-stop c.args.draft.now c.requires.begins.none c.in_ok-table.table
    (c.in_ok-export_table.ensures.known ∙ ap Some (sym c.in_ok-table.ensures)) c.args.exports.now
    (subst (λ n. n ≤ 64) counted c.new_count.ensures.few) roots first.first c.in_err-ask_roots.field-0.0
    (subst (λ n. StopsAt c.args.draft.now (root_usages n roots) c.in_err-ask_roots.field-0.0)
    c.last.ensures.last c.in_err-ask_roots.ensures))

pub put_table-requires-clause-follows : goal.put_table-requires-clause-follows
put_table-requires-clause-follows c =
    made-follows c.args.draft.now c.requires.begins.none c.in_ok-table.table
    (c.in_ok-export_table.ensures.known ∙ ap Some (sym c.in_ok-table.ensures)) c.args.exports.now
    c.in_ok-roots.roots.now
    (subst (λ n. AreFirst c.args.draft.now n c.in_ok-roots.roots.now) c.new_count.ensures.count
    c.in_ok-roots.ensures.numbers) c.in_ok-new.new c.in_ok-new.ensures.exports c.in_ok-new.ensures.last
    c.last.ensures.table

pub make_roots-requires-clause-ready : goal.make_roots-requires-clause-ready
make_roots-requires-clause-ready c =
    subst (λ n. AwaitsRoots c.put_table.new.draft n c.in_ok-roots.roots.now) (sym c.last-2.ensures.last)
    (awaits-roots c.args.draft.now c.requires.begins.none c.in_ok-table.table
    (c.in_ok-export_table.ensures.known ∙ ap Some (sym c.in_ok-table.ensures)) c.args.exports.now
    c.in_ok-roots.roots.now
    (subst (λ n. AreFirst c.args.draft.now n c.in_ok-roots.roots.now) c.new_count.ensures.count
    c.in_ok-roots.ensures.numbers) c.in_ok-new.new c.in_ok-new.ensures.exports c.in_ok-new.ensures.last
    c.requires.begins c.in_ok-roots.ensures.view c.put_table.new.draft c.in_ok-put_table.ensures.ok)

pub returns-clause-replaces : goal.returns-clause-replaces
returns-clause-replaces c =
    let mid = c.put_table.new.draft in
    let roots = c.in_ok-roots.roots.now in
    made-replaces c.args.draft.now c.requires.begins.none c.in_ok-table.table
    (c.in_ok-export_table.ensures.known ∙ ap Some (sym c.in_ok-table.ensures)) c.args.exports.now
    c.in_ok-roots.roots.now
    (subst (λ n. AreFirst c.args.draft.now n c.in_ok-roots.roots.now) c.new_count.ensures.count
    c.in_ok-roots.ensures.numbers) c.in_ok-new.new c.in_ok-new.ensures.exports c.in_ok-new.ensures.last
    c.list-list.ensures.faultless (sym c.if-is_exhausted.ensures)
    (subst (λ n. n ≤ 64) c.new_count.ensures.count c.new_count.ensures.few) mid c.make_roots.new.draft
    c.in_ok-put_table.ensures.turns c.make_roots.result
    (subst (λ n. MatchResult c.make_roots.result
    (λ x. Turns mid c.make_roots.new.draft
    (roots_made (time_of mid.ctx.moment) (root_choice roots n) n (length roots)))
    (StopsAt mid (root_usages n roots))) c.last-2.ensures.last c.make_roots.ensures.made)
    c.make_roots.ensures.fit
