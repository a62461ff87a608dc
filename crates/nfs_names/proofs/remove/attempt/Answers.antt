use Rattle.std.proofs.Common.{Ok, Err, ◌∷◌}
use Rattle.std.proofs.lemmas.Result.{err_from_is_err_and}
use Rattle.nfs_objects.proofs.KnowsLemmas.{covers-among}
use Rattle.nfs_objects.specs.Calls.{addresses_of, locks_under, named_by}
use Rattle.nfs_objects.specs.declared.address.Addr.TheVariants as addresses
use Rattle.nfs_inodes.proofs.NamedHaltLemmas.{asking, lives-as, means-as, naming, number-as, reading}
use Rattle.nfs_inodes.proofs.ReaderHaltLemmas.{stops-before}
use Rattle.nfs_inodes.proofs.ShownKindLemmas.{shown-so}
use Rattle.nfs_names.proofs.RemoveLemmas.{alone, first-halted, first-read, names-directory, refused-promised}
use Rattle.nfs_names.proofs.RemoveLemmas.{taken-promised}
use Rattle.nfs_names.proofs.NamedLocksLemmas.{taking-names}
use Rattle.nfs_names.specs.Removes.{call_of}
use Rattle.nfs_names.proofs.remove.attempt.Goals as goal

pub returns-in_err-directory-clause-ends : goal.returns-in_err-directory-clause-ends
returns-in_err-directory-clause-ends c =
    let p = err_from_is_err_and c.from_residual.result c.from_residual.ensures.1 in
    rw (p.1, p.2)
    (naming c.args.draft (call_of c.args.taking c.args.place.now) _ c.requires c.args.place.now.directory _
    c.as_slice.ensures
    (names-directory c.args.taking c.args.place.now) c.in_err-directory.ensures.stops)

pub returns-in_err-directory-clause-first : goal.returns-in_err-directory-clause-first
returns-in_err-directory-clause-first c =
    let p = err_from_is_err_and c.from_residual.result c.from_residual.ensures.1 in
    rw (p.1, p.2)
    (first-halted c.args.taking c.args.place.now c.args.draft c.requires _ c.as_slice.ensures _ _ _
    c.in_err-directory.ensures.first)

pub take-requires-clause-alone : goal.take-requires-clause-alone
take-requires-clause-alone c = alone c.args.taking c.args.place.now c.args.draft c.requires

pub take-requires-clause-names : goal.take-requires-clause-names
take-requires-clause-names c =
    means-as c.args.draft c.args.place.now.directory _ _ (Ok c.in-Ok.directory) c.as_slice.ensures
    c.in-Ok.is c.in_ok-directory.ensures.means

pub take-requires-clause-number : goal.take-requires-clause-number
take-requires-clause-number c =
    number-as c.args.place.now.directory _ _ c.in-Ok.directory c.as_slice.ensures c.in-Ok.is
    c.in_ok-directory.ensures.number

pub returns-in_err-result-in-Ok-clause-ends : goal.returns-in_err-result-in-Ok-clause-ends
returns-in_err-result-in-Ok-clause-ends c =
    let p = err_from_is_err_and c.from_residual-in_err-result-in-Ok.result
    c.from_residual-in_err-result-in-Ok.ensures.1 in
    rw (p.1, p.2)
    (asking c.args.draft (call_of c.args.taking c.args.place.now) _ c.requires
    (addresses.Exports ∷ locks_under c.args.draft.view c.args.place.now)
    (covers-among (addresses.Exports ∷ locks_under c.args.draft.view c.args.place.now)
    (named_by (call_of c.args.taking c.args.place.now) c.args.draft.view) c.args.draft.view
    (taking-names c.args.taking c.args.place.now c.args.draft.view)) c.in_err-result-in-Ok.ensures)

pub returns-in_err-shown-in-Ok-clause-ends : goal.returns-in_err-shown-in-Ok-clause-ends
returns-in_err-shown-in-Ok-clause-ends c =
    let p = err_from_is_err_and c.from_residual-in_err-shown-in-Ok.result
    c.from_residual-in_err-shown-in-Ok.ensures.1 in
    let does = c.in_ok-result-in-Ok.ensures in
    rw (p.1, p.2)
    (reading c.args.draft (call_of c.args.taking c.args.place.now) _ c.requires c.in-Ok.directory
    (lives-as c.args.draft.view _ c.in-Ok.directory c.in-Ok.is c.in_ok-directory.ensures.lives)
    (stops-before c.args.draft c.take.new.draft does.op
    (λ view. addresses_of view c.in-Ok.directory.number) _ does.turns
    c.in_err-shown-in-Ok.ensures))

pub returns-in_ok-shown-in-Ok-clause-ends : goal.returns-in_ok-shown-in-Ok-clause-ends
returns-in_ok-shown-in-Ok-clause-ends c =
    rw (c.answer.ensures.value, c.reply.ensures)
    (taken-promised c.args.taking c.args.draft c.args.place.now c.requires c.take.new.draft c.answer.ensures.held
    c.answer.ensures.given c.in-Ok.directory c.in_ok-result-in-Ok.result c.in_ok-shown-in-Ok.shown
    (means-as c.args.draft c.args.place.now.directory _ _ (Ok c.in-Ok.directory) c.as_slice.ensures
    c.in-Ok.is c.in_ok-directory.ensures.means) c.in_ok-result-in-Ok.ensures c.in_ok-shown-in-Ok.ensures)

pub returns-in-Err-clause-ends : goal.returns-in-Err-clause-ends
returns-in-Err-clause-ends c =
    rw (c.answer-in-Err.ensures.value, c.reply-in-Err.ensures, c.nothing_shown.ensures)
    (refused-promised c.args.taking c.args.draft c.args.place.now c.requires c.answer-in-Err.ensures.held
    c.answer-in-Err.ensures.given c.in-Err.status
    (means-as c.args.draft c.args.place.now.directory _ _ (Err c.in-Err.status) c.as_slice.ensures
    c.in-Err.is c.in_ok-directory.ensures.means))

pub returns-in_err-result-in-Ok-clause-first : goal.returns-in_err-result-in-Ok-clause-first
returns-in_err-result-in-Ok-clause-first c =
    first-read c.args.taking c.args.place.now c.args.draft c.requires _ c.as_slice.ensures _ _
    c.in_ok-directory.ensures.first

pub returns-in_err-shown-in-Ok-clause-first : goal.returns-in_err-shown-in-Ok-clause-first
returns-in_err-shown-in-Ok-clause-first c =
    first-read c.args.taking c.args.place.now c.args.draft c.requires _ c.as_slice.ensures _ _
    c.in_ok-directory.ensures.first

pub returns-in_ok-shown-in-Ok-clause-first : goal.returns-in_ok-shown-in-Ok-clause-first
returns-in_ok-shown-in-Ok-clause-first c =
    first-read c.args.taking c.args.place.now c.args.draft c.requires _ c.as_slice.ensures _ _
    c.in_ok-directory.ensures.first

pub returns-in-Err-clause-first : goal.returns-in-Err-clause-first
returns-in-Err-clause-first c =
    first-read c.args.taking c.args.place.now c.args.draft c.requires _ c.as_slice.ensures _ _
    c.in_ok-directory.ensures.first

pub take-requires-clause-shown : goal.take-requires-clause-shown
take-requires-clause-shown c =
    shown-so c.args.draft _ c.in-Ok.directory c.in-Ok.is c.in_ok-directory.ensures.shown
