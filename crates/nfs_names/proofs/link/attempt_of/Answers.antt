use Rattle.std.proofs.Common.{◌∷◌, Err, Ok, inl, refl}
use Rattle.std.proofs.lemmas.Result.{err_from_is_err_and}
use Rattle.nfs_wire.specs.declared.calls.NfsCall.TheVariants as nfs
use Rattle.nfs_machine.specs.declared.calls.Call.TheVariants as calls
use Rattle.nfs_objects.proofs.KnowsLemmas.{covers-among, names-added, names-exports}
use Rattle.nfs_objects.specs.Calls.{added_at, addresses_of, named_by}
use Rattle.nfs_objects.specs.declared.address.Addr.TheVariants as addresses
use Rattle.nfs_inodes.proofs.NamedHaltLemmas.{asking, lives-as, means-as, naming-second, number-as, reading}
use Rattle.nfs_inodes.proofs.ReaderHaltLemmas.{stops-before}
use Rattle.nfs_inodes.proofs.ShownKindLemmas.{shown-so}
use Rattle.nfs_inodes.proofs.StandsLemmas.{known-lives}
use Rattle.nfs_names.proofs.LinkLemmas.{directory-refused, linked-promised}
use Rattle.nfs_names.proofs.link.attempt_of.Goals as goal

pub returns-in_err-directory : goal.returns-in_err-directory
returns-in_err-directory c =
    let a = c.args.arguments.now in
    let p = err_from_is_err_and c.from_residual.result c.from_residual.ensures.1 in
    rw (p.1, p.2)
    (naming-second c.args.draft (calls.Nfs (nfs.Link a)) _ c.requires.begins a.file a.place.directory _
    c.as_slice.ensures refl c.in_err-directory.ensures.stops)

pub link-requires-clause-directory : goal.link-requires-clause-directory
link-requires-clause-directory c =
    means-as c.args.draft c.args.arguments.now.place.directory _ _ (Ok c.in-Ok.directory) c.as_slice.ensures c.in-Ok.is
    c.in_ok-directory.ensures.means

pub returns-in_err-result-in-Ok : goal.returns-in_err-result-in-Ok
returns-in_err-result-in-Ok c =
    let call = calls.Nfs (nfs.Link c.args.arguments.now) in
    let p = err_from_is_err_and c.from_residual-in_err-result-in-Ok.result
    c.from_residual-in_err-result-in-Ok.ensures.1 in
    let view = c.args.draft.view in
    rw (p.1, p.2)
    (asking c.args.draft call _ c.requires.begins (addresses.Exports ∷ added_at view c.args.arguments.now.place) (
      inl (names-exports call view),
      covers-among (added_at view c.args.arguments.now.place) (named_by call view) view
          (names-added (nfs.Link c.args.arguments.now) view),
    ) c.in_err-result-in-Ok.ensures)

pub returns-in_err-attributes-in-Ok : goal.returns-in_err-attributes-in-Ok
returns-in_err-attributes-in-Ok c =
    let call = calls.Nfs (nfs.Link c.args.arguments.now) in
    let p = err_from_is_err_and c.from_residual-in_err-attributes-in-Ok.result
    c.from_residual-in_err-attributes-in-Ok.ensures.1 in
    let does = c.in_ok-result-in-Ok.ensures in
    rw (p.1, p.2)
    (reading c.args.draft call _ c.requires.begins c.args.file.now
    (known-lives c.args.draft c.args.file.now c.requires.begins.none (λ s k w. (c.requires.file s k w).known))
    (stops-before c.args.draft c.link.new.draft does.op
    (λ view. addresses_of view c.args.file.now.number) _ does.turns
    c.in_err-attributes-in-Ok.ensures))

pub returns-in_err-wcc-in-Ok : goal.returns-in_err-wcc-in-Ok
returns-in_err-wcc-in-Ok c =
    let call = calls.Nfs (nfs.Link c.args.arguments.now) in
    let p = err_from_is_err_and c.from_residual-in_err-wcc-in-Ok.result c.from_residual-in_err-wcc-in-Ok.ensures.1 in
    let does = c.in_ok-result-in-Ok.ensures in
    rw (p.1, p.2)
    (reading c.args.draft call _ c.requires.begins c.in-Ok.directory
    (lives-as c.args.draft.view _ c.in-Ok.directory c.in-Ok.is c.in_ok-directory.ensures.lives)
    (stops-before c.args.draft c.link.new.draft does.op
    (λ view. addresses_of view c.in-Ok.directory.number) _ does.turns
    c.in_err-wcc-in-Ok.ensures))

pub returns-in_ok-wcc-in-Ok : goal.returns-in_ok-wcc-in-Ok
returns-in_ok-wcc-in-Ok c =
    rw (c.answer.ensures.value, c.reply.ensures)
    (linked-promised c.args.draft c.args.arguments.now c.requires.begins c.link.new.draft c.answer.ensures.held
    c.answer.ensures.given c.args.file.now c.in-Ok.directory c.in_ok-result-in-Ok.result
    c.in_ok-attributes-in-Ok.attributes c.in_ok-wcc-in-Ok.wcc c.requires.file
    (means-as c.args.draft c.args.arguments.now.place.directory _ _ (Ok c.in-Ok.directory) c.as_slice.ensures c.in-Ok.is
    c.in_ok-directory.ensures.means) c.in_ok-result-in-Ok.ensures c.in_ok-attributes-in-Ok.ensures
    c.in_ok-wcc-in-Ok.ensures)

pub returns-in-Err : goal.returns-in-Err
returns-in-Err c =
    rw (c.answer-in-Err.ensures.value, c.reply-in-Err.ensures, c.nothing_shown.ensures)
    (directory-refused c.args.draft c.args.arguments.now c.requires.begins c.answer-in-Err.ensures.held
    c.answer-in-Err.ensures.given c.args.file.now c.in-Err.status c.requires.file
    (means-as c.args.draft c.args.arguments.now.place.directory _ _ (Err c.in-Err.status) c.as_slice.ensures c.in-Err.is
    c.in_ok-directory.ensures.means))

pub link-requires-clause-shown : goal.link-requires-clause-shown
link-requires-clause-shown c =
    shown-so c.args.draft _ c.in-Ok.directory c.in-Ok.is c.in_ok-directory.ensures.shown

pub link-requires-clause-target : goal.link-requires-clause-target
link-requires-clause-target c =
    number-as c.args.arguments.now.place.directory _ _ c.in-Ok.directory c.as_slice.ensures c.in-Ok.is
    c.in_ok-directory.ensures.number
