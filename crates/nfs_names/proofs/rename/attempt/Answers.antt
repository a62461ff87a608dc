use Rattle.std.proofs.Common.{[], ◌∷◌, Err, Ok, refl, subst}
use Rattle.std.proofs.lemmas.Result.{err_from_is_err_and}
use Rattle.nfs_wire.specs.declared.calls.NfsCall.TheVariants as nfs
use Rattle.nfs_machine.specs.declared.calls.Call.TheVariants as calls
use Rattle.nfs_objects.specs.Attempt.{HaltsFirst, first_wanted_with}
use Rattle.nfs_objects.specs.Modes.{modes_of}
use Rattle.nfs_inodes.proofs.NamedHaltLemmas.{means-as, naming-first, number-as}
use Rattle.nfs_inodes.proofs.ShownKindLemmas.{shown-so}
use Rattle.nfs_names.proofs.RenameLemmas.{first-known, first-refused}
use Rattle.nfs_names.proofs.rename.attempt.Goals as goal

pub returns-in_err-from-clause-ends : goal.returns-in_err-from-clause-ends
returns-in_err-from-clause-ends c =
    let p = err_from_is_err_and c.from_residual.result c.from_residual.ensures.1 in
    rw (p.1, p.2)
    (naming-first c.args.draft (calls.Nfs (nfs.Rename c.args.arguments.now)) _ c.requires.begins
    c.args.arguments.now.from.directory c.args.arguments.now.to.directory _ c.as_slice.ensures refl
    c.in_err-from.ensures.stops)

pub attempt_from-requires-clause-names : goal.attempt_from-requires-clause-names
attempt_from-requires-clause-names c =
    means-as c.args.draft c.args.arguments.now.from.directory _ _ (Ok c.in-Ok.from) c.as_slice.ensures c.in-Ok.is
    c.in_ok-from.ensures.means

pub attempt_from-requires-clause-number : goal.attempt_from-requires-clause-number
attempt_from-requires-clause-number c =
    number-as c.args.arguments.now.from.directory _ _ c.in-Ok.from c.as_slice.ensures c.in-Ok.is
    c.in_ok-from.ensures.number

pub returns-in-Ok-clause-first : goal.returns-in-Ok-clause-first
returns-in-Ok-clause-first c =
    first-known c.args.draft.modes (modes_of (calls.Nfs (nfs.Rename c.args.arguments.now)))
    c.args.draft.view (first_wanted_with c.args.draft.view (c.args.arguments.now.from.directory ∷ []))
    c.in_ok-from.field-0
    c.attempt_from.result
    (subst (λ h. HaltsFirst c.args.draft.modes c.args.draft.view (first_wanted_with c.args.draft.view (h ∷ []))
    (Ok c.in_ok-from.field-0))
    c.as_slice.ensures
    c.in_ok-from.ensures.first)

pub returns-in-Err-clause-ends : goal.returns-in-Err-clause-ends
returns-in-Err-clause-ends c =
    rw (c.answer.ensures.value, c.reply.ensures, c.nothing_shown.ensures, c.nothing_shown-in-Err.ensures)
    (first-refused c.args.draft c.args.arguments.now c.requires.begins c.answer.ensures.held c.answer.ensures.given
    c.in-Err.status
    (means-as c.args.draft c.args.arguments.now.from.directory _ _ (Err c.in-Err.status) c.as_slice.ensures c.in-Err.is
    c.in_ok-from.ensures.means))

pub attempt_from-requires-clause-shown : goal.attempt_from-requires-clause-shown
attempt_from-requires-clause-shown c =
    shown-so c.args.draft _ c.in-Ok.from c.in-Ok.is c.in_ok-from.ensures.shown
