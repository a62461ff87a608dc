use Rattle.std.proofs.Common.{Err, Ok, refl}
use Rattle.std.proofs.lemmas.Result.{err_from_is_err_and}
use Rattle.nfs_wire.specs.declared.calls.NfsCall.TheVariants as nfs
use Rattle.nfs_machine.specs.declared.calls.Call.TheVariants as calls
use Rattle.nfs_inodes.proofs.NamedHaltLemmas.{halting, lives-as, means-as, naming-second, number-as, reading}
use Rattle.nfs_inodes.proofs.ReaderHaltLemmas.{stops-before}
use Rattle.nfs_inodes.proofs.ShownKindLemmas.{shown-so}
use Rattle.nfs_inodes.proofs.StandsLemmas.{known-lives}
use Rattle.nfs_names.proofs.RenameLemmas.{rename-promised, second-refused}
use Rattle.nfs_objects.specs.Calls.{addresses_of}
use Rattle.nfs_names.proofs.rename.attempt_from.Goals as goal

pub returns-in_err-to : goal.returns-in_err-to
returns-in_err-to c =
    let p = err_from_is_err_and c.from_residual.result c.from_residual.ensures.1 in
    rw (p.1, p.2)
    (naming-second c.args.draft (calls.Nfs (nfs.Rename c.args.arguments.now)) _ c.requires.begins
    c.args.arguments.now.from.directory c.args.arguments.now.to.directory _ c.as_slice.ensures refl
    c.in_err-to.ensures.stops)

pub rename-requires-clause-to : goal.rename-requires-clause-to
rename-requires-clause-to c =
    means-as c.args.draft c.args.arguments.now.to.directory _ _ (Ok c.in-Ok.to) c.as_slice.ensures c.in-Ok.is
    c.in_ok-to.ensures.means

pub rename-requires-clause-target : goal.rename-requires-clause-target
rename-requires-clause-target c =
    number-as c.args.arguments.now.to.directory _ _ c.in-Ok.to c.as_slice.ensures c.in-Ok.is c.in_ok-to.ensures.number

pub returns-in_err-result-in-Ok : goal.returns-in_err-result-in-Ok
returns-in_err-result-in-Ok c =
    let p = err_from_is_err_and c.from_residual-in_err-result-in-Ok.result c.from_residual-in_err-result-in-Ok.ensures.1
    in
    rw (p.1, p.2) (halting c.args.draft (calls.Nfs (nfs.Rename c.args.arguments.now)) _ c.requires.begins
    c.in_err-result-in-Ok.ensures)

pub returns-in_err-from_shown-in-Ok : goal.returns-in_err-from_shown-in-Ok
returns-in_err-from_shown-in-Ok c =
    let p = err_from_is_err_and c.from_residual-in_err-from_shown-in-Ok.result
    c.from_residual-in_err-from_shown-in-Ok.ensures.1 in
    let does = c.in_ok-result-in-Ok.ensures in
    rw (p.1, p.2)
    (reading c.args.draft (calls.Nfs (nfs.Rename c.args.arguments.now)) _ c.requires.begins c.args.from.now
    (known-lives c.args.draft c.args.from.now c.requires.begins.none (λ s k w. (c.requires.names s k w).known))
    (stops-before c.args.draft c.rename.new.draft does.op
    (λ view. addresses_of view c.args.from.now.number) _ does.turns
    c.in_err-from_shown-in-Ok.ensures))

pub returns-in_err-to_shown-in-Ok : goal.returns-in_err-to_shown-in-Ok
returns-in_err-to_shown-in-Ok c =
    let p = err_from_is_err_and c.from_residual-in_err-to_shown-in-Ok.result
    c.from_residual-in_err-to_shown-in-Ok.ensures.1 in
    let does = c.in_ok-result-in-Ok.ensures in
    rw (p.1, p.2)
    (reading c.args.draft (calls.Nfs (nfs.Rename c.args.arguments.now)) _ c.requires.begins c.in-Ok.to
    (lives-as c.args.draft.view _ c.in-Ok.to c.in-Ok.is c.in_ok-to.ensures.lives)
    (stops-before c.args.draft c.rename.new.draft does.op
    (λ view. addresses_of view c.in-Ok.to.number) _ does.turns
    c.in_err-to_shown-in-Ok.ensures))

pub returns-in_ok-to_shown-in-Ok : goal.returns-in_ok-to_shown-in-Ok
returns-in_ok-to_shown-in-Ok c =
    rw (c.answer.ensures.value, c.reply.ensures)
    (rename-promised c.args.draft c.args.arguments.now c.requires.begins c.args.from.now c.in-Ok.to
    c.in_ok-result-in-Ok.result c.in_ok-from_shown-in-Ok.from_shown c.in_ok-to_shown-in-Ok.to_shown
    c.rename.new.draft c.answer.ensures.held c.answer.ensures.given c.requires.names
    (means-as c.args.draft c.args.arguments.now.to.directory _ _ (Ok c.in-Ok.to) c.as_slice.ensures c.in-Ok.is
    c.in_ok-to.ensures.means)
    c.in_ok-result-in-Ok.ensures c.in_ok-from_shown-in-Ok.ensures c.in_ok-to_shown-in-Ok.ensures)

pub returns-in_err-from_shown-in-Err : goal.returns-in_err-from_shown-in-Err
returns-in_err-from_shown-in-Err c =
    let p = err_from_is_err_and c.from_residual-in_err-from_shown-in-Err.result
    c.from_residual-in_err-from_shown-in-Err.ensures.1 in
    rw (p.1, p.2)
    (reading c.args.draft (calls.Nfs (nfs.Rename c.args.arguments.now)) _ c.requires.begins c.args.from.now
    (known-lives c.args.draft c.args.from.now c.requires.begins.none (λ s k w. (c.requires.names s k w).known))
    c.in_err-from_shown-in-Err.ensures)

pub returns-in_ok-from_shown-in-Err : goal.returns-in_ok-from_shown-in-Err
returns-in_ok-from_shown-in-Err c =
    rw (
      c.answer-in-Err.ensures.value,
      c.reply-in-Err.ensures,
      c.nothing_shown.ensures,
    )
    (second-refused c.args.draft c.args.arguments.now c.requires.begins c.answer-in-Err.ensures.held
    c.answer-in-Err.ensures.given c.in-Err.status c.args.from.now
    c.in_ok-from_shown-in-Err.from_shown c.requires.names
    (means-as c.args.draft c.args.arguments.now.to.directory _ _ (Err c.in-Err.status) c.as_slice.ensures c.in-Err.is
    c.in_ok-to.ensures.means) c.in_ok-from_shown-in-Err.ensures)

pub rename-requires-clause-shown : goal.rename-requires-clause-shown
rename-requires-clause-shown c =
    (c.requires.shown, shown-so c.args.draft _ c.in-Ok.to c.in-Ok.is c.in_ok-to.ensures.shown)
