use Rattle.std.proofs.Common.{Err, sym, option_map, subst}
use Rattle.std.proofs.lemmas.Result.{err_from_is_err_and}
use Rattle.nfs_wire.specs.declared.calls.NfsCall.TheVariants as nfs
use Rattle.nfs_machine.specs.Times.{time_of}
use Rattle.nfs_machine.specs.declared.calls.Call.TheVariants as calls
use Rattle.nfs_objects.specs.Calls.{addresses_of, named_by}
use Rattle.nfs_objects.specs.Values.{DraftValue}
use Rattle.nfs_objects.specs.declared.address.Addr.TheVariants as addresses
use Rattle.nfs_inodes.proofs.UsageChangeLemmas.{usage-lives-first}
use Rattle.nfs_inodes.proofs.ReaderHaltLemmas.{any-stops, exports-stop-at, known-never_lacking, lives-stops}
use Rattle.nfs_inodes.proofs.ReaderHaltLemmas.{stops-before}
use Rattle.nfs_inodes.proofs.StandsLemmas.{known-lives}
use Rattle.nfs_inodes.specs.Makes.{size_set}
use Rattle.nfs_inodes.specs.Stops.{KnowsAt}
use Rattle.nfs_data.proofs.SetattrLemmas.{Checks, file-as, file-shown, none-as, refused-does, set-does}
use Rattle.nfs_data.specs.declared.setattr.NewSize.{NewSize}
use Rattle.nfs_inodes.proofs.MakerChainLemmas.{counted-stops}
use Rattle.nfs_data.proofs.setattr.set.Goals as goal

pub returns-in_err-exports-clause-does : goal.returns-in_err-exports-clause-does
returns-in_err-exports-clause-does c =
    let p = err_from_is_err_and c.from_residual.result c.from_residual.ensures.1 in
    rw (p.1, p.2) (exports-stop-at c.args.draft.now
    (named_by (calls.Nfs (nfs.Setattr c.args.arguments.now)) c.args.draft.now.view) _ c.in_err-exports.ensures.exports)

pub returns-in_err-exports-clause-only : goal.returns-in_err-exports-clause-only
returns-in_err-exports-clause-only c =
    let p = err_from_is_err_and c.from_residual.result c.from_residual.ensures.1 in
    λ none knows. rw (p.1, p.2) (
      known-never_lacking {A = Unit {0}} c.args.draft.now addresses.Exports
          (Err _) knows.exports c.in_err-exports.ensures.reads,
      tt,
    )

pub returns-in-Err-clause-does : goal.returns-in-Err-clause-does
returns-in-Err-clause-does c =
    let exports = c.in_ok-exports.field-0.now in
    refused-does c.args.draft.now c.args.arguments.now c.args.known.now c.requires.names exports
    c.in_ok-exports.ensures.exports c.settable.result
    (subst (Checks exports c.args.arguments.now c.args.known.now c.settable.result) c.ctx.ensures
    c.settable.ensures.checks) c.in-Err.status c.in-Err.is

pub returns-in-Err-clause-only : goal.returns-in-Err-clause-only
returns-in-Err-clause-only c = λ none knows. (tt, knows)

pub resize_to-requires-clause-file : goal.resize_to-requires-clause-file
resize_to-requires-clause-file c = file-as c.args.known.now c.args.arguments.now.attributes.size c.in-Ok.size
    c.in-Ok.ensures.size

pub returns-in_err-resize_to-clause-does : goal.returns-in_err-resize_to-clause-does
returns-in_err-resize_to-clause-does c =
    let p = err_from_is_err_and c.from_residual-in_err-resize_to.result c.from_residual-in_err-resize_to.ensures.1 in
    rw (p.1, p.2) (any-stops c.args.draft.now
    (named_by (calls.Nfs (nfs.Setattr c.args.arguments.now)) c.args.draft.now.view) _
    (counted-stops c.args.draft.now c.args.known.now.number _
    (known-lives c.args.draft.now c.args.known.now c.requires.begins.none (λ s k w. (c.requires.names s k w).known))
    (usage-lives-first c.args.draft.now c.args.known.now.number c.requires.begins.none)
    c.in_err-resize_to.ensures.turns))

pub returns-in_err-resize_to-clause-only : goal.returns-in_err-resize_to-clause-only
returns-in_err-resize_to-clause-only c =
    let p = err_from_is_err_and c.from_residual-in_err-resize_to.result c.from_residual-in_err-resize_to.ensures.1 in
    λ none knows. rw (p.1, p.2) (
      (c.in_err-resize_to.ensures.only
          (none-as c.args.known.now c.args.arguments.now.attributes.size c.in-Ok.size c.in-Ok.ensures.size none)).1,
      tt,
    )

pub returns-in_err-set_attributes-clause-does : goal.returns-in_err-set_attributes-clause-does
returns-in_err-set_attributes-clause-does c =
    let p = err_from_is_err_and c.from_residual-in_err-set_attributes.result
    c.from_residual-in_err-set_attributes.ensures.1 in
    rw (p.1, p.2) (any-stops c.args.draft.now
    (named_by (calls.Nfs (nfs.Setattr c.args.arguments.now)) c.args.draft.now.view) _
    (lives-stops c.args.draft.now c.args.known.now.number _
    (known-lives c.args.draft.now c.args.known.now c.requires.begins.none (λ s k w. (c.requires.names s k w).known))
    (stops-before c.args.draft.now c.resize_to.new.draft
    (size_set (time_of c.args.draft.now.ctx.moment) c.args.known.now.number
    (option_map (λ (s : NewSize). s.size) c.in-Ok.size))
    (λ view. addresses_of view c.args.known.now.number) _ c.in_ok-resize_to.ensures.turns
    c.in_err-set_attributes.ensures.turns)))

pub returns-in_err-set_attributes-clause-only : goal.returns-in_err-set_attributes-clause-only
returns-in_err-set_attributes-clause-only c =
    let p = err_from_is_err_and c.from_residual-in_err-set_attributes.result
    c.from_residual-in_err-set_attributes.ensures.1 in
    λ none knows. rw (p.1, p.2) (
      c.in_err-set_attributes.ensures.once
          (subst (λ (d : DraftValue). KnowsAt d c.args.known.now.number)
          (sym (c.in_ok-resize_to.ensures.only
          (none-as c.args.known.now c.args.arguments.now.attributes.size c.in-Ok.size c.in-Ok.ensures.size none)).0)
          knows),
      tt,
    )

pub returns-clause-does : goal.returns-clause-does
returns-clause-does c =
    let exports = c.in_ok-exports.field-0.now in
    let settings = c.settings_after-settings.ensures in
    set-does c.args.draft.now c.args.arguments.now c.args.known.now c.requires.names exports
    c.in_ok-exports.ensures.exports c.settable.result
    (subst (Checks exports c.args.arguments.now c.args.known.now c.settable.result) c.ctx.ensures
    c.settable.ensures.checks) c.in-Ok.size c.in-Ok.is c.resize_to.new.draft c.set_attributes.new.draft c.in-Ok.size
    c.settings_after-settings.result c.in-Ok.ensures.size (rw c.ctx-2.ensures at settings)
    c.in_ok-resize_to.ensures.turns c.in_ok-set_attributes.ensures.turns

pub returns-clause-only : goal.returns-clause-only
returns-clause-only c = λ none knows. (tt, c.in_ok-set_attributes.ensures.known)

pub resize_to-requires-clause-shown : goal.resize_to-requires-clause-shown
resize_to-requires-clause-shown c =
    file-shown c.args.draft.now c.args.known.now c.args.arguments.now.attributes.size c.in-Ok.size c.in-Ok.ensures.size
    c.requires.shown
