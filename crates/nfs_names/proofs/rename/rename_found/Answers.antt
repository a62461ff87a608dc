use Rattle.std.proofs.Common.{Ok, Err, sym, ◌++◌}
use Rattle.std.proofs.lemmas.Result.{err_from_is_err_and}
use Rattle.nfs_wire.specs.declared.status.NfsStatus.TheVariants as status
use Rattle.nfs_inodes.proofs.StandsLemmas.{known-lives}
use Rattle.nfs_names.proofs.RenameLemmas.{ends-exists, ends-invalid, ends-links, ends-one, ends-space, moved-does}
use Rattle.nfs_names.proofs.RenameLemmas.{settled-does}
use Rattle.nfs_objects.specs.Calls.{added_at}
use Rattle.nfs_inodes.proofs.ReaderHaltLemmas.{any-stops, lives-stops}
use Rattle.nfs_names.specs.Renames.{locks_replaced}
use Rattle.nfs_names.proofs.rename.rename_found.Goals as goal

pub returns-then-is_one_object : goal.returns-then-is_one_object
returns-then-is_one_object c =
    let d = c.args.draft.now in
    settled-does d c.args.arguments.now (Ok tt) (ends-one d c.args.arguments.now c.args.renaming.now c.requires.finds
    (sym c.if-is_one_object.ensures))

pub is_replaceable-requires-clause-moved : goal.is_replaceable-requires-clause-moved
is_replaceable-requires-clause-moved c = λ s k w. (c.requires.finds s k w).moved.1

pub is_replaceable-requires-clause-replaced : goal.is_replaceable-requires-clause-replaced
is_replaceable-requires-clause-replaced c = λ s k w. (c.requires.finds s k w).replaced.1

pub goes_into_itself-requires-clause-moved : goal.goes_into_itself-requires-clause-moved
goes_into_itself-requires-clause-moved c = λ s k w. (c.requires.finds s k w).moved.1

pub goes_into_itself-requires-clause-to : goal.goes_into_itself-requires-clause-to
goes_into_itself-requires-clause-to c = λ s k w. (c.requires.finds s k w).to.known

pub returns-then-not-branch : goal.returns-then-not-branch
returns-then-not-branch c =
    let d = c.args.draft.now in
    settled-does d c.args.arguments.now (Err status.Exists)
    (ends-exists d c.args.arguments.now c.args.renaming.now c.requires.finds (sym c.if-is_one_object.ensures)
    (rw c.if-not-branch.true at c.in_ok-is_replaceable.ensures))

pub returns-then-branch : goal.returns-then-branch
returns-then-branch c =
    let d = c.args.draft.now in
    settled-does d c.args.arguments.now (Err status.Invalid)
    (ends-invalid d c.args.arguments.now c.args.renaming.now c.requires.finds (sym c.if-is_one_object.ensures)
    (rw c.if-not-branch.false at c.in_ok-is_replaceable.ensures)
    (rw c.if-branch.true at c.in_ok-goes_into_itself.ensures))

pub returns-then-not-has_room : goal.returns-then-not-has_room
returns-then-not-has_room c =
    let d = c.args.draft.now in
    settled-does d c.args.arguments.now (Err status.TooManyLinks)
    (ends-links d c.args.arguments.now c.args.renaming.now c.requires.finds (sym c.if-is_one_object.ensures)
    (rw c.if-not-branch.false at c.in_ok-is_replaceable.ensures)
    (rw c.if-branch.false at c.in_ok-goes_into_itself.ensures) (sym c.if-not-has_room.ensures))

pub returns-in_err-cookie : goal.returns-in_err-cookie
returns-in_err-cookie c =
    let p = err_from_is_err_and c.from_residual-in_err-cookie.result c.from_residual-in_err-cookie.ensures.1 in
    rw (p.1, p.2) (any-stops c.args.draft.now
    (added_at c.args.draft.now.view c.args.arguments.now.to ++ locks_replaced c.args.renaming.now) _
    (lives-stops c.args.draft.now c.args.renaming.now.to.known.number _ (known-lives c.args.draft.now
    c.args.renaming.now.to.known c.requires.none (λ s k w. (c.requires.finds s k w).to.known))
    c.in_err-cookie.ensures.cookie))

pub returns-in_err-is_replaceable : goal.returns-in_err-is_replaceable
returns-in_err-is_replaceable c =
    let p = err_from_is_err_and c.from_residual.result c.from_residual.ensures.1 in
    rw (p.1, p.2) (any-stops c.args.draft.now
    (added_at c.args.draft.now.view c.args.arguments.now.to ++ locks_replaced c.args.renaming.now) _
    c.in_err-is_replaceable.ensures)

pub returns-in_err-goes_into_itself : goal.returns-in_err-goes_into_itself
returns-in_err-goes_into_itself c =
    let p = err_from_is_err_and c.from_residual-in_err-goes_into_itself.result
    c.from_residual-in_err-goes_into_itself.ensures.1 in
    rw (p.1, p.2) (any-stops c.args.draft.now
    (added_at c.args.draft.now.view c.args.arguments.now.to ++ locks_replaced c.args.renaming.now) _
    c.in_err-goes_into_itself.ensures)

pub move_name-requires-clause-next : goal.move_name-requires-clause-next
move_name-requires-clause-next c = rw c.in-Some.is at c.in_ok-cookie.ensures.next

pub returns-in_default : goal.returns-in_default
returns-in_default c =
    let d = c.args.draft.now in
    settled-does d c.args.arguments.now (Err status.NoSpace)
    (ends-space d c.args.arguments.now c.args.renaming.now c.requires.finds (sym c.if-is_one_object.ensures)
    (rw c.if-not-branch.false at c.in_ok-is_replaceable.ensures)
    (rw c.if-branch.false at c.in_ok-goes_into_itself.ensures) (sym c.if-not-has_room.ensures)
    (rw c.in_default.is at c.in_ok-cookie.ensures.cookie))

pub returns : goal.returns
returns c =
    moved-does c.args.draft.now c.args.arguments.now c.args.renaming.now c.requires.finds
    (sym c.if-is_one_object.ensures) (rw c.if-not-branch.false at c.in_ok-is_replaceable.ensures)
    (rw c.if-branch.false at c.in_ok-goes_into_itself.ensures) (sym c.if-not-has_room.ensures) c.in-Some.cookie
    (rw c.in-Some.is at c.in_ok-cookie.ensures.cookie) c.move_name.new.draft c.in_ok-move_name.ensures
