use Rattle.std.proofs.Common.{◌∷◌, [], subst, sym}
use Rattle.std.proofs.lemmas.Result.{err_from_is_err_and}
use Rattle.std.proofs.lemmas.Bool.{le-ltb, lt-ltb}
use Rattle.nfs_wire.specs.declared.status.NfsStatus.TheVariants as status
use Rattle.nfs_machine.specs.Checks.{link_limit}
use Rattle.nfs_objects.proofs.PromiseLemmas.{does-nothing}
use Rattle.nfs_inodes.proofs.StandsLemmas.{known-lives}
use Rattle.nfs_names.proofs.LinkLemmas.{full-end, linked-does, many-end, refused-end, there-end}
use Rattle.nfs_names.specs.Links.{IsLinkEnd}
use Rattle.nfs_objects.specs.declared.address.Addr.TheVariants as addresses
use Rattle.nfs_objects.specs.Calls.{added_at}
use Rattle.nfs_inodes.proofs.ReaderHaltLemmas.{any-stops, lives-stops}
use Rattle.nfs_inodes.proofs.WriteAsksLemmas.{front-stops}
use Rattle.nfs_names.proofs.NameGrowsLemmas.{linking-as}
use Rattle.nfs_inodes.specs.declared.found.Known.{Known}
use Rattle.nfs_inodes.specs.Kinds.{IsShown}
use Rattle.nfs_names.proofs.link.link.Goals as goal

pub returns-in_err-exports : goal.returns-in_err-exports
returns-in_err-exports c =
    let p = err_from_is_err_and c.from_residual.result c.from_residual.ensures.1 in
    rw (p.1, p.2) (front-stops c.args.draft.now (addresses.Exports ∷ [])
    (added_at c.args.draft.now.view c.args.arguments.now.place) _ c.in_err-exports.ensures.exports)

pub returns-in-Err : goal.returns-in-Err
returns-in-Err c =
    let d = c.args.draft.now in
    does-nothing d (IsLinkEnd d.ctx c.args.arguments.now) c.in-Err.status
    (refused-end d c.args.arguments.now c.args.file.now c.args.known.now c.requires.file c.requires.directory _
    c.in_ok-exports.ensures.exports c.in-Err.status
    (rw (c.ctx.ensures, c.as_slice-name.ensures, c.in-Err.is) at c.linkable.ensures.checks))

pub returns-in_err-entry : goal.returns-in_err-entry
returns-in_err-entry c =
    let p = err_from_is_err_and c.from_residual-in_err-entry.result c.from_residual-in_err-entry.ensures.1 in
    let entry = rw c.in-Ok.ensures.known at c.in_err-entry.ensures.entry in
    rw (p.1, p.2) (any-stops c.args.draft.now (addresses.Exports ∷ added_at c.args.draft.now.view
    c.args.arguments.now.place) _
    (lives-stops c.args.draft.now c.args.known.now.number _
    (known-lives c.args.draft.now c.args.known.now c.requires.none (λ s k w. (c.requires.directory s k w).known))
    entry))

pub returns-then-is_some : goal.returns-then-is_some
returns-then-is_some c =
    let d = c.args.draft.now in
    does-nothing d (IsLinkEnd d.ctx c.args.arguments.now) status.Exists
    (there-end d c.args.arguments.now c.args.file.now c.args.known.now c.requires.file c.requires.directory _
    c.in_ok-exports.ensures.exports c.in-Ok.directory c.in-Ok.ensures.known
    (rw (c.ctx.ensures, c.as_slice-name.ensures, c.in-Ok.is) at c.linkable.ensures.checks) _
    (rw (c.in-Ok.ensures.known, c.as_slice-name.ensures) at c.in_ok-entry.ensures.entry) c.if-is_some.ensures)

pub returns-then-file-ge-LINK_LIMIT : goal.returns-then-file-ge-LINK_LIMIT
returns-then-file-ge-LINK_LIMIT c =
    let d = c.args.draft.now in
    let file = c.args.file.now in
    does-nothing d (IsLinkEnd d.ctx c.args.arguments.now) status.TooManyLinks
    (many-end d c.args.arguments.now file c.args.known.now c.requires.file c.requires.directory _
    c.in_ok-exports.ensures.exports c.in-Ok.directory c.in-Ok.ensures.known
    (rw (c.ctx.ensures, c.as_slice-name.ensures, c.in-Ok.is) at c.linkable.ensures.checks) _
    (rw (c.in-Ok.ensures.known, c.as_slice-name.ensures) at c.in_ok-entry.ensures.entry)
    c.if-is_some.ensures
    (le-ltb file.attributes.links link_limit c.if-file-ge-LINK_LIMIT.true))

pub returns-in_err-cookie : goal.returns-in_err-cookie
returns-in_err-cookie c =
    let p = err_from_is_err_and c.from_residual-in_err-cookie.result c.from_residual-in_err-cookie.ensures.1 in
    let stops = rw c.in-Ok.ensures.known at c.in_err-cookie.ensures.cookie in
    rw (p.1, p.2) (any-stops c.args.draft.now (addresses.Exports ∷ added_at c.args.draft.now.view
    c.args.arguments.now.place) _
    (lives-stops c.args.draft.now c.args.known.now.number _
    (known-lives c.args.draft.now c.args.known.now c.requires.none (λ s k w. (c.requires.directory s k w).known))
    stops))

pub returns-in_default : goal.returns-in_default
returns-in_default c =
    let d = c.args.draft.now in
    let file = c.args.file.now in
    does-nothing d (IsLinkEnd d.ctx c.args.arguments.now) status.NoSpace
    (full-end d c.args.arguments.now file c.args.known.now c.requires.file c.requires.directory _
    c.in_ok-exports.ensures.exports c.in-Ok.directory c.in-Ok.ensures.known
    (rw (c.ctx.ensures, c.as_slice-name.ensures, c.in-Ok.is) at c.linkable.ensures.checks) _
    (rw (c.in-Ok.ensures.known, c.as_slice-name.ensures) at c.in_ok-entry.ensures.entry)
    c.if-is_some.ensures
    (lt-ltb file.attributes.links link_limit c.if-file-ge-LINK_LIMIT.false)
    (rw (c.in-Ok.ensures.known, c.in_default.is) at c.in_ok-cookie.ensures.cookie))

pub returns-in_err-add_link : goal.returns-in_err-add_link
returns-in_err-add_link c =
    let p = err_from_is_err_and c.from_residual-in_err-add_link.result
    c.from_residual-in_err-add_link.ensures.1 in
    let d = c.args.draft.now in
    let known = c.args.known.now in
    rw (p.1, p.2) (linking-as d c.args.arguments.now.place c.in-Ok.directory.known known _ c.args.file.now.number
    c.in-Some.cookie _ c.in-Ok.ensures.known c.as_slice-name.ensures c.requires.none c.requires.shown c.requires.target
    (rw (c.in-Ok.ensures.known, c.in-Some.is) at c.in_ok-cookie.ensures.next)
    (known-lives d known c.requires.none (λ s k w. (c.requires.directory s k w).known))
    (known-lives d c.args.file.now c.requires.none (λ s k w. (c.requires.file s k w).known))
    c.in_err-add_link.ensures)

pub returns : goal.returns
returns c =
    let d = c.args.draft.now in
    let file = c.args.file.now in
    linked-does d c.args.arguments.now file c.args.known.now c.requires.file c.requires.directory _
    c.in_ok-exports.ensures.exports c.in-Ok.directory c.in-Ok.ensures.known
    (rw (c.ctx.ensures, c.as_slice-name.ensures, c.in-Ok.is) at c.linkable.ensures.checks) _
    (rw (c.in-Ok.ensures.known, c.as_slice-name.ensures) at c.in_ok-entry.ensures.entry)
    c.if-is_some.ensures
    (lt-ltb file.attributes.links link_limit c.if-file-ge-LINK_LIMIT.false)
    c.in-Some.cookie (rw (c.in-Ok.ensures.known, c.in-Some.is) at c.in_ok-cookie.ensures.cookie) c.add_link.new.draft
    (rw (c.in-Ok.ensures.known, c.as_slice-name.ensures) at c.in_ok-add_link.ensures)

pub add_link-requires-clause-shown : goal.add_link-requires-clause-shown
add_link-requires-clause-shown c = subst (λ (z : Known). IsShown c.args.draft.now z) (sym c.in-Ok.ensures.known)
    c.requires.shown
