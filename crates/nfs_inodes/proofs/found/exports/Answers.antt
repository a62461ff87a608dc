use Rattle.std.proofs.lemmas.Result.{err_from_is_err_and}
use Rattle.nfs_objects.specs.declared.address.Addr.TheVariants as addresses
use Rattle.nfs_inodes.proofs.ReaderHaltLemmas.{known-first, lacking-first-at, lacking-stops}
use Rattle.nfs_inodes.proofs.StandsLemmas.{exports-there}
use Rattle.nfs_inodes.proofs.found.exports.Goals as goal

pub returns-clause-exports : goal.returns-clause-exports
returns-clause-exports c = λ s k w.
    exports-there c.args.draft.now c.export_list.result.now
    (record { object = _; known = c.in_ok-find.ensures; is = c.export_list.ensures }) s k w.fits w.stands

pub returns-clause-table : goal.returns-clause-table
returns-clause-table c = record { object = _; known = c.in_ok-find.ensures; is = c.export_list.ensures }

pub returns-clause-first : goal.returns-clause-first
returns-clause-first c = λ none. known-first _ c.args.draft.now addresses.Exports _ _ none c.in_ok-find.ensures

pub returns-in_err-find-clause-exports : goal.returns-in_err-find-clause-exports
returns-in_err-find-clause-exports c =
    let p = err_from_is_err_and c.from_residual.result c.from_residual.ensures.1 in
    rw (p.1, p.2) (lacking-stops c.args.draft.now addresses.Exports _ c.in_err-find.ensures)

pub returns-in_err-find-clause-first : goal.returns-in_err-find-clause-first
returns-in_err-find-clause-first c =
    let p = err_from_is_err_and c.from_residual.result c.from_residual.ensures.1 in
    rw (p.1, p.2) (λ none. lacking-first-at _ c.args.draft.now addresses.Exports _ c.in_err-find.ensures)
