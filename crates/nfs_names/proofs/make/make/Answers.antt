use Rattle.std.proofs.Common.{◌++◌, Ok, Err}
use Rattle.std.proofs.lemmas.Result.{err_from_is_err_and}
use Rattle.nfs_inodes.proofs.UsageChangeLemmas.{brings-as}
use Rattle.nfs_inodes.proofs.NamedHaltLemmas.{exported-as, lives-as, means-as, number-as}
use Rattle.nfs_inodes.proofs.ShownKindLemmas.{shown-so}
use Rattle.nfs_inodes.specs.Asked.{asked_as}
use Rattle.nfs_names.proofs.MakeObjectLemmas.{bringing-stops, front-making, made-replies, refused-replies}
use Rattle.nfs_names.specs.Making.{there_as}
use Rattle.nfs_objects.specs.Calls.{added_at}
use Rattle.nfs_inodes.specs.Stops.{brought_by}
use Rattle.nfs_names.proofs.make.make.Goals as goal

pub returns-in_err-known-clause-answers : goal.returns-in_err-known-clause-answers
returns-in_err-known-clause-answers c =
    let p = err_from_is_err_and c.from_residual.result c.from_residual.ensures.1 in
    rw (p.1, p.2) (front-making c.args.draft.now (brought_by c.args.draft.now.view c.args.place.now.directory)
    (added_at c.args.draft.now.view c.args.place.now) _
    (rw c.as_slice.ensures at c.in_err-known.ensures.stops))

pub make_in-requires-clause-names : goal.make_in-requires-clause-names
make_in-requires-clause-names c =
    means-as c.args.draft.now c.args.place.now.directory _ _ (Ok c.in-Ok.known) c.as_slice.ensures
    c.in-Ok.is c.in_ok-known.ensures.means

pub make_in-requires-clause-exported : goal.make_in-requires-clause-exported
make_in-requires-clause-exported c =
    exported-as c.args.draft.now _ c.in-Ok.known c.in-Ok.is c.in_ok-known.ensures.exported

pub make_in-requires-clause-usage : goal.make_in-requires-clause-usage
make_in-requires-clause-usage c =
    brings-as c.args.place.now.directory _ _ c.in-Ok.known c.as_slice.ensures c.in-Ok.is c.in_ok-known.ensures.usage

pub returns-in_err-result-in-Ok-clause-answers : goal.returns-in_err-result-in-Ok-clause-answers
returns-in_err-result-in-Ok-clause-answers c =
    let p = err_from_is_err_and c.from_residual-in_err-result-in-Ok.result
    c.from_residual-in_err-result-in-Ok.ensures.1 in
    rw (p.1, p.2) c.in_err-result-in-Ok.ensures

pub returns-in_err-directory-in-Ok-clause-answers : goal.returns-in_err-directory-in-Ok-clause-answers
returns-in_err-directory-in-Ok-clause-answers c =
    let p = err_from_is_err_and c.from_residual-in_err-directory-in-Ok.result
    c.from_residual-in_err-directory-in-Ok.ensures.1 in
    let does = c.in_ok-result-in-Ok.ensures in
    rw (p.1, p.2)
    (bringing-stops c.args.draft.now c.make_in.new.draft does.op
    (brought_by c.args.draft.now.view c.args.place.now.directory ++ added_at c.args.draft.now.view c.args.place.now)
    c.in-Ok.known.number _ does.turns
    (lives-as c.args.draft.now.view _ c.in-Ok.known c.in-Ok.is c.in_ok-known.ensures.lives)
    c.in_err-directory-in-Ok.ensures)

pub returns-in_ok-directory-in-Ok-clause-answers : goal.returns-in_ok-directory-in-Ok-clause-answers
returns-in_ok-directory-in-Ok-clause-answers c =
    let d = c.args.draft.now in
    made-replies c.args.place.now (asked_as c.args.asked) (there_as c.args.there d.ctx) d c.make_in.new.draft
    c.in-Ok.known c.in_ok-result-in-Ok.result c.in_ok-directory-in-Ok.directory
    (means-as d c.args.place.now.directory _ _ (Ok c.in-Ok.known) c.as_slice.ensures c.in-Ok.is
    c.in_ok-known.ensures.means) c.in_ok-result-in-Ok.ensures c.in_ok-directory-in-Ok.ensures

pub returns-in-Err-clause-answers : goal.returns-in-Err-clause-answers
returns-in-Err-clause-answers c =
    let d = c.args.draft.now in
    rw c.nothing_shown.ensures
    (refused-replies c.args.place.now (asked_as c.args.asked) (there_as c.args.there d.ctx) d c.in-Err.status
    (means-as d c.args.place.now.directory _ _ (Err c.in-Err.status) c.as_slice.ensures c.in-Err.is
    c.in_ok-known.ensures.means))

pub make_in-requires-clause-shown : goal.make_in-requires-clause-shown
make_in-requires-clause-shown c =
    shown-so c.args.draft.now _ c.in-Ok.known c.in-Ok.is c.in_ok-known.ensures.shown

pub make_in-requires-clause-number : goal.make_in-requires-clause-number
make_in-requires-clause-number c =
    number-as c.args.place.now.directory _ _ c.in-Ok.known c.as_slice.ensures c.in-Ok.is c.in_ok-known.ensures.number
