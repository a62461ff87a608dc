use Rattle.std.proofs.Common.{◌++◌}
use Rattle.std.proofs.lemmas.Result.{err_from_is_err_and}
use Rattle.nfs_objects.proofs.PromiseLemmas.{turns-none}
use Rattle.nfs_objects.specs.Calls.{added_at}
use Rattle.nfs_inodes.proofs.ReaderHaltLemmas.{any-stops, lives-stops}
use Rattle.nfs_inodes.proofs.StandsLemmas.{known-lives}
use Rattle.nfs_names.proofs.RenameLemmas.{over-lives}
use Rattle.nfs_names.specs.Renames.{locks_replaced}
use Rattle.nfs_names.proofs.rename.ask_found.Goals as goal

pub is_replaceable-requires-clause-moved : goal.is_replaceable-requires-clause-moved
is_replaceable-requires-clause-moved c = λ s k w. (c.requires.finds s k w).moved.1

pub is_replaceable-requires-clause-replaced : goal.is_replaceable-requires-clause-replaced
is_replaceable-requires-clause-replaced c = λ s k w. (c.requires.finds s k w).replaced.1

pub returns-in_err-is_replaceable : goal.returns-in_err-is_replaceable
returns-in_err-is_replaceable c =
    let p = err_from_is_err_and c.from_residual.result c.from_residual.ensures.1 in
    rw (p.1, p.2) (any-stops c.args.draft.now
    (added_at c.args.draft.now.view c.args.arguments.now.to ++ locks_replaced c.args.renaming.now) _
    c.in_err-is_replaceable.ensures)

pub returns-in_err-cookie : goal.returns-in_err-cookie
returns-in_err-cookie c =
    let p = err_from_is_err_and c.from_residual-in_err-cookie.result c.from_residual-in_err-cookie.ensures.1 in
    rw (p.1, p.2) (any-stops c.args.draft.now
    (added_at c.args.draft.now.view c.args.arguments.now.to ++ locks_replaced c.args.renaming.now) _
    (lives-stops c.args.draft.now c.args.renaming.now.to.known.number _ (known-lives c.args.draft.now
    c.args.renaming.now.to.known c.requires.none (λ s k w. (c.requires.finds s k w).to.known))
    c.in_err-cookie.ensures.cookie))

pub ask_moved-requires-clause-from : goal.ask_moved-requires-clause-from
ask_moved-requires-clause-from c =
    known-lives c.args.draft.now c.args.renaming.now.from.known c.requires.none
    (λ s k w. (c.requires.finds s k w).from.known)

pub ask_moved-requires-clause-to : goal.ask_moved-requires-clause-to
ask_moved-requires-clause-to c =
    known-lives c.args.draft.now c.args.renaming.now.to.known c.requires.none
    (λ s k w. (c.requires.finds s k w).to.known)

pub ask_moved-requires-clause-lives : goal.ask_moved-requires-clause-lives
ask_moved-requires-clause-lives c =
    over-lives c.args.draft.now c.args.draft.now (λ k. k) c.args.renaming.now.replaced (turns-none c.args.draft.now)
    c.requires.none (λ s k w. (c.requires.finds s k w).replaced.1)

pub ask_moved-requires-clause-next : goal.ask_moved-requires-clause-next
ask_moved-requires-clause-next c = rw c.in-Some.is at c.in_ok-cookie.ensures.next
