use Rattle.std.proofs.Common.{◌≡◌, [], false, rules, refl, sym, ◌∙◌}
use Rattle.std.proofs.lemmas.Result.{err_from_is_err_and}
use Rattle.nfs_mount.proofs.MountListLemmas.{exports-stop, mounts-stop, none-taken, some-taken}
use Rattle.nfs_mount.proofs.unmount.take_mounts.Goals as goal

pub returns-in_err-exports-clause-takes : goal.returns-in_err-exports-clause-takes
returns-in_err-exports-clause-takes c =
    let p = err_from_is_err_and c.from_residual.result c.from_residual.ensures.1 in
    rw (p.1, p.2) (exports-stop c.args.draft.now _ c.in_err-exports.ensures.exports)

pub returns-in_err-table-clause-takes : goal.returns-in_err-table-clause-takes
returns-in_err-table-clause-takes c =
    let p = err_from_is_err_and c.from_residual-in_err-table.result c.from_residual-in_err-table.ensures.1 in
    rw (p.1, p.2) (mounts-stop c.args.draft.now _ c.in_err-table.ensures)

pub returns-in_default-clause-takes : goal.returns-in_default-clause-takes
returns-in_default-clause-takes c =
    none-taken c.args.draft.now c.args.leaving [] ((rw c.in_default.is at c.in_ok-table.ensures).1) refl

pub returns-then-not-has-clause-takes : goal.returns-then-not-has-clause-takes
returns-then-not-has-clause-takes c =
    let none : c.has.result ≡ false = search rules in
    none-taken c.args.draft.now c.args.leaving c.in-Some.table.now ((rw c.in-Some.is at c.in_ok-table.ensures).1)
    (sym c.has.ensures ∙ none)

pub returns-clause-takes : goal.returns-clause-takes
returns-clause-takes c =
    some-taken c.args.draft.now c.args.leaving c.in-Some.table.now ((rw c.in-Some.is at c.in_ok-table.ensures).1)
    c.in_ok-rest.rest c.in_ok-rest.ensures c.put_mounts.new.self c.in_ok-put_mounts.ensures.ok
