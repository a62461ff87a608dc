use Rattle.std.proofs.Common.{◌≡◌, Err, IfSome, IsSome, Some, ap, option_map, sym, subst, ◌∙◌}
use Rattle.nfs_machine.specs.declared.handle.Handle.{Handle}
use Rattle.std.proofs.lemmas.Result.{err_from_is_err_and}
use Rattle.nfs_inodes.proofs.ReaderHaltLemmas.{bad-first, exports-first, exports-once, exports-stop, lacking-first}
use Rattle.nfs_inodes.proofs.ReaderHaltLemmas.{lacking-once, object-first, object-stops, reads-at}
use Rattle.nfs_inodes.proofs.UsageChangeLemmas.{brings-usage}
use Rattle.nfs_inodes.proofs.HandleNamesLemmas.{bad-handle, named-there, nothing-there}
use Rattle.nfs_inodes.proofs.StandsLemmas.{known-lives}
use Rattle.nfs_objects.specs.Knows.{ShowsExport}
use Rattle.nfs_objects.specs.Values.{known_at}
use Rattle.nfs_objects.specs.declared.address.Addr.TheVariants as addresses
use Rattle.nfs_inodes.specs.Kinds.{IsShown}
use Rattle.nfs_inodes.specs.Known.{IsObject}
use Rattle.nfs_inodes.specs.declared.found.Known.{Known}
use Rattle.nfs_inodes.proofs.found.named.Goals as goal

pub returns-in_err-exports-clause-stops : goal.returns-in_err-exports-clause-stops
returns-in_err-exports-clause-stops c =
    let p = err_from_is_err_and c.from_residual.result c.from_residual.ensures.1 in
    rw (p.1, p.2) (exports-stop c.args.draft.now c.args.handle.now _ c.in_err-exports.ensures.exports)

pub returns-in_err-exports-clause-first : goal.returns-in_err-exports-clause-first
returns-in_err-exports-clause-first c =
    let p = err_from_is_err_and c.from_residual.result c.from_residual.ensures.1 in
    rw (p.1, p.2) (exports-first _ c.args.draft.now c.args.handle.now _ c.in_err-exports.ensures.reads)

pub returns-in_default-clause-means : goal.returns-in_default-clause-means
returns-in_default-clause-means c = bad-handle c.args.draft.now c.args.handle.now (sym c.in_default.ensures)

pub returns-in_default-clause-first : goal.returns-in_default-clause-first
returns-in_default-clause-first c = bad-first _ c.args.draft.now c.args.handle.now c.requires
    c.in_ok-exports.ensures.reads _ (sym c.in_default.ensures)

pub returns-in_err-known-clause-stops : goal.returns-in_err-known-clause-stops
returns-in_err-known-clause-stops c =
    let p = err_from_is_err_and c.from_residual-in_err-known.result c.from_residual-in_err-known.ensures.1 in
    rw (p.1, p.2) (object-stops c.args.draft.now c.args.handle.now c.in-Some.handle _ (sym c.in-Some.ensures)
    c.in_err-known.ensures.object)

pub returns-in_err-known-clause-first : goal.returns-in_err-known-clause-first
returns-in_err-known-clause-first c =
    let p = err_from_is_err_and c.from_residual-in_err-known.result c.from_residual-in_err-known.ensures.1 in
    rw (p.1, p.2) (lacking-first _ c.args.draft.now c.args.handle.now c.requires c.in_ok-exports.ensures.reads
    c.in-Some.handle (sym c.in-Some.ensures) _
    (reads-at {A = Unit {0}} c.args.draft.now c.in-Some.handle.fileid (Err _) c.in_ok-exports.ensures.reads
    c.in_err-known.ensures.reads))

pub returns-in_default-2-clause-means : goal.returns-in_default-2-clause-means
returns-in_default-2-clause-means c =
    nothing-there c.args.draft.now c.args.handle.now c.in-Some.handle (sym c.in-Some.ensures)
    (λ s k w. subst (IsObject k.state c.in-Some.handle.fileid) c.in_default-2.is (c.in_ok-known.ensures.object s k w))

pub returns-in_default-2-clause-first : goal.returns-in_default-2-clause-first
returns-in_default-2-clause-first c =
    object-first _ c.args.draft.now c.args.handle.now c.requires c.in_ok-exports.ensures.reads c.in-Some.handle
    (sym c.in-Some.ensures) _ c.in_ok-known.ensures.reads.object

pub returns-then-is_target-clause-means : goal.returns-then-is_target-clause-means
returns-then-is_target-clause-means c =
    named-there c.args.draft.now c.args.handle.now c.in-Some.handle (sym c.in-Some.ensures) c.in_ok-exports.exports.now
    c.in_ok-exports.ensures.exports c.in-Some-2.known
    (λ s k w. subst (IsObject k.state c.in-Some.handle.fileid) c.in-Some-2.is (c.in_ok-known.ensures.object s k w))
    (sym (rw c.ctx.ensures at c.if-is_target.ensures))

pub returns-then-is_target-clause-lives : goal.returns-then-is_target-clause-lives
returns-then-is_target-clause-lives c =
    known-lives c.args.draft.now c.in-Some-2.known c.requires
    (λ s k w. (subst (IsObject k.state c.in-Some.handle.fileid) c.in-Some-2.is (c.in_ok-known.ensures.object s k w)).1)

pub returns-in_err-exports-clause-once : goal.returns-in_err-exports-clause-once
returns-in_err-exports-clause-once c = λ nothing. absurd (exports-once (Unit {0}) c.args.draft.now c.args.handle.now _
    c.in_err-exports.ensures.reads nothing)

pub returns-in_err-known-clause-once : goal.returns-in_err-known-clause-once
returns-in_err-known-clause-once c = λ nothing.
    absurd (lacking-once (Unit {0}) c.args.draft.now c.args.handle.now c.requires c.in_ok-exports.ensures.reads
    c.in-Some.handle (sym c.in-Some.ensures) _
    (reads-at {A = Unit {0}} c.args.draft.now c.in-Some.handle.fileid (Err _) c.in_ok-exports.ensures.reads
    c.in_err-known.ensures.reads) nothing)

pub returns-in_err-exports-clause-at_once : goal.returns-in_err-exports-clause-at_once
returns-in_err-exports-clause-at_once c = λ nothing.
    absurd (exports-once (Unit {0}) c.args.draft.now c.args.handle.now _ c.in_err-exports.ensures.reads nothing)

pub returns-in_err-known-clause-at_once : goal.returns-in_err-known-clause-at_once
returns-in_err-known-clause-at_once c = λ nothing.
    absurd (lacking-once (Unit {0}) c.args.draft.now c.args.handle.now c.requires c.in_ok-exports.ensures.reads
    c.in-Some.handle (sym c.in-Some.ensures) _
    (reads-at {A = Unit {0}} c.args.draft.now c.in-Some.handle.fileid (Err _) c.in_ok-exports.ensures.reads
    c.in_err-known.ensures.reads) nothing)

pub returns-then-is_target-clause-reads : goal.returns-then-is_target-clause-reads
returns-then-is_target-clause-reads c =
    let same : c.in-Some-2.known.number ≡ c.in-Some.handle.fileid =
    subst (λ o. IfSome o (λ (x : Known). x.number ≡ c.in-Some.handle.fileid)) c.in-Some-2.is
    c.in_ok-known.ensures.number in (
      c.in_ok-exports.ensures.reads,
      subst (λ n. IsSome (known_at c.args.draft.now (addresses.Inode n))) (sym same)
          c.in_ok-known.ensures.reads.object,
    )

pub returns-then-is_target-clause-usage : goal.returns-then-is_target-clause-usage
returns-then-is_target-clause-usage c =
    brings-usage c.args.handle.now c.in-Some.handle c.in-Some-2.known _ (sym c.in-Some.ensures)
    (sym (rw c.ctx.ensures at c.if-is_target.ensures))

pub returns-then-is_target-clause-number : goal.returns-then-is_target-clause-number
returns-then-is_target-clause-number c =
    let same : c.in-Some-2.known.number ≡ c.in-Some.handle.fileid =
    subst (λ o. IfSome o (λ (x : Known). x.number ≡ c.in-Some.handle.fileid)) c.in-Some-2.is
    c.in_ok-known.ensures.number in
    ap (option_map (λ (h : Handle). h.fileid)) (sym c.in-Some.ensures) ∙ ap Some (sym same)

pub returns-then-is_target-clause-exported : goal.returns-then-is_target-clause-exported
returns-then-is_target-clause-exported c =
    subst (λ o. IfSome o (λ (x : Known). ShowsExport c.args.draft.now x.export)) c.in-Some-2.is
    c.in_ok-known.ensures.exported

pub returns-then-is_target-clause-shown : goal.returns-then-is_target-clause-shown
returns-then-is_target-clause-shown c =
    subst (λ o. IfSome o (λ (x : Known). IsShown c.args.draft.now x)) c.in-Some-2.is c.in_ok-known.ensures.shown
