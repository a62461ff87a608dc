use Rattle.std.proofs.Common.{◌≡◌, [], Err, Ok, refl, subst}
use Rattle.std.proofs.lemmas.Result.{err_from_is_err_and}
use Rattle.nfs_wire.specs.declared.calls.NfsCall.TheVariants as nfs
use Rattle.nfs_machine.specs.declared.calls.Call.TheVariants as calls
use Rattle.nfs_objects.specs.Knows.{Knows}
use Rattle.nfs_inodes.proofs.NamedHaltLemmas.{asking, means-as, naming}
use Rattle.nfs_names.proofs.LookupLemmas.{named-promised, refused-promised}
use Rattle.nfs_names.specs.Lookup.{found_in}
use Rattle.nfs_names.proofs.lookup.attempt.Goals as goal

pub returns-in_err-directory-clause-ends : goal.returns-in_err-directory-clause-ends
returns-in_err-directory-clause-ends c =
    let p = err_from_is_err_and c.from_residual.result c.from_residual.ensures.1 in
    rw (p.1, p.2)
    (naming c.args.draft (calls.Nfs (nfs.Lookup c.args.place.now)) _ c.requires c.args.place.now.directory _
    c.as_slice.ensures refl c.in_err-directory.ensures.stops)

pub found-requires-clause-known : goal.found-requires-clause-known
found-requires-clause-known c = λ s k w.
    (means-as c.args.draft c.args.place.now.directory _ _ (Ok c.in-Ok.directory) c.as_slice.ensures c.in-Ok.is
    c.in_ok-directory.ensures.means s k w).known

pub returns-in_err-result-in-Ok-clause-ends : goal.returns-in_err-result-in-Ok-clause-ends
returns-in_err-result-in-Ok-clause-ends c =
    let p = err_from_is_err_and c.from_residual-in_err-result-in-Ok.result
    c.from_residual-in_err-result-in-Ok.ensures.1 in
    rw (p.1, p.2)
    (asking c.args.draft (calls.Nfs (nfs.Lookup c.args.place.now)) _ c.requires [] tt c.in_err-result-in-Ok.ensures)

pub returns-in_ok-result-in-Ok-clause-ends : goal.returns-in_ok-result-in-Ok-clause-ends
returns-in_ok-result-in-Ok-clause-ends c =
    rw (c.answer.ensures.value, c.reply.ensures)
    (named-promised c.args.draft c.args.place.now c.requires c.answer.ensures.held c.answer.ensures.given
    c.in-Ok.directory c.in_ok-result-in-Ok.result
    (means-as c.args.draft c.args.place.now.directory _ _ (Ok c.in-Ok.directory) c.as_slice.ensures c.in-Ok.is
    c.in_ok-directory.ensures.means)
    (subst (λ n. Knows c.args.draft (λ k.
    found_in k c.args.draft.ctx c.in-Ok.directory n ≡ c.in_ok-result-in-Ok.result))
    c.as_slice-in-Ok.ensures c.in_ok-result-in-Ok.ensures))

pub returns-in-Err-clause-ends : goal.returns-in-Err-clause-ends
returns-in-Err-clause-ends c =
    rw (c.answer-in-Err.ensures.value, c.reply-in-Err.ensures)
    (refused-promised c.args.draft c.args.place.now c.requires c.answer-in-Err.ensures.held
    c.answer-in-Err.ensures.given c.in-Err.status
    (means-as c.args.draft c.args.place.now.directory _ _ (Err c.in-Err.status) c.as_slice.ensures c.in-Err.is
    c.in_ok-directory.ensures.means))
