use Rattle.std.proofs.Common.{[], Err, Ok, refl, subst}
use Rattle.std.proofs.lemmas.Result.{err_from_is_err_and}
use Rattle.nfs_wire.specs.declared.calls.NfsCall.TheVariants as nfs
use Rattle.nfs_machine.specs.declared.calls.Call.TheVariants as calls
use Rattle.nfs_inodes.proofs.NamedHaltLemmas.{asking, means-as, naming}
use Rattle.nfs_names.proofs.ReaddirLemmas.{names-promised, names-refused}
use Rattle.nfs_names.specs.Pages.{Lists, names_page}
use Rattle.nfs_names.proofs.readdir.attempt.Goals as goal

pub returns-in_err-directory-clause-ends : goal.returns-in_err-directory-clause-ends
returns-in_err-directory-clause-ends c =
    let p = err_from_is_err_and c.from_residual.result c.from_residual.ensures.1 in
    rw (p.1, p.2)
    (naming c.args.draft (calls.Nfs (nfs.Readdir c.args.arguments.now)) _ c.requires c.args.arguments.now.directory _
    c.as_slice.ensures refl c.in_err-directory.ensures.stops)

pub listed-requires-clause-known : goal.listed-requires-clause-known
listed-requires-clause-known c = λ s k w.
    (means-as c.args.draft c.args.arguments.now.directory _ _ (Ok c.in-Ok.directory) c.as_slice.ensures c.in-Ok.is
    c.in_ok-directory.ensures.means s k w).known

pub returns-in_err-page-in-Ok-clause-ends : goal.returns-in_err-page-in-Ok-clause-ends
returns-in_err-page-in-Ok-clause-ends c =
    let p = err_from_is_err_and c.from_residual-in_err-page-in-Ok.result
    c.from_residual-in_err-page-in-Ok.ensures.1 in
    rw (p.1, p.2)
    (asking c.args.draft (calls.Nfs (nfs.Readdir c.args.arguments.now)) _ c.requires [] tt
    c.in_err-page-in-Ok.ensures)

pub returns-in_ok-page-in-Ok-clause-ends : goal.returns-in_ok-page-in-Ok-clause-ends
returns-in_ok-page-in-Ok-clause-ends c =
    rw (c.answer.ensures.value, c.reply.ensures)
    (names-promised c.args.draft c.args.arguments.now c.requires c.answer.ensures.held c.answer.ensures.given
    c.in-Ok.directory c.in_ok-page-in-Ok.page
    (means-as c.args.draft c.args.arguments.now.directory _ _ (Ok c.in-Ok.directory) c.as_slice.ensures c.in-Ok.is
    c.in_ok-directory.ensures.means)
    (subst (λ asked. Lists c.args.draft c.in-Ok.directory asked (λ _. names_page c.args.draft.ctx)
    c.in_ok-page-in-Ok.page) c.asked.ensures c.in_ok-page-in-Ok.ensures))

pub returns-in-Err-clause-ends : goal.returns-in-Err-clause-ends
returns-in-Err-clause-ends c =
    rw (c.answer-in-Err.ensures.value, c.reply-in-Err.ensures)
    (names-refused c.args.draft c.args.arguments.now c.requires c.answer-in-Err.ensures.held
    c.answer-in-Err.ensures.given c.in-Err.status
    (means-as c.args.draft c.args.arguments.now.directory _ _ (Err c.in-Err.status) c.as_slice.ensures c.in-Err.is
    c.in_ok-directory.ensures.means))
