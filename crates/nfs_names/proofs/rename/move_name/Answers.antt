use Rattle.std.proofs.Common.{◌++◌, ap, ◌∙◌}
use Rattle.std.proofs.lemmas.Result.{err_from_is_err_and}
use Rattle.nfs_machine.specs.Times.{time_of}
use Rattle.nfs_objects.proofs.PromiseLemmas.{turned-change, turns-both}
use Rattle.nfs_objects.specs.Calls.{added_at}
use Rattle.nfs_objects.specs.declared.address.Addr.TheVariants as addresses
use Rattle.nfs_inodes.proofs.StandsLemmas.{known-lives}
use Rattle.nfs_inodes.specs.Renames.{rehomed}
use Rattle.nfs_inodes.specs.Stops.{StopsAt}
use Rattle.nfs_names.proofs.RenameLemmas.{lives-on, moved-lived, over-counts}
use Rattle.nfs_names.proofs.RenameLemmas.{later-named, over-lives, turned-after, turned-both}
use Rattle.nfs_names.proofs.HeldAloneLemmas.{replaced-changes}
use Rattle.nfs_names.specs.Renames.{entry_moved, locks_replaced, replaced_lost}
use Rattle.nfs_inodes.proofs.ReaderHaltLemmas.{lives-stops, stops-before}
use Rattle.nfs_inodes.proofs.WriteAsksLemmas.{back-stops, front-stops}
use Rattle.nfs_names.proofs.rename.move_name.Goals as goal

pub move_entry-requires-clause-from : goal.move_entry-requires-clause-from
move_entry-requires-clause-from c =
    known-lives c.args.draft.now c.args.renaming.now.from.known c.requires.none
    (λ s k w. (c.requires.finds s k w).from.known)

pub move_entry-requires-clause-to : goal.move_entry-requires-clause-to
move_entry-requires-clause-to c =
    known-lives c.args.draft.now c.args.renaming.now.to.known c.requires.none
    (λ s k w. (c.requires.finds s k w).to.known)

pub rehome-requires : goal.rehome-requires
rehome-requires c =
    turned-change c.args.draft.now c.move_entry.new.draft _ c.in_ok-move_entry.ensures
    (addresses.Inode c.args.renaming.now.moved.number) c.requires.alone.moved

pub returns-in_err-move_entry : goal.returns-in_err-move_entry
returns-in_err-move_entry c =
    let p = err_from_is_err_and c.from_residual.result c.from_residual.ensures.1 in
    rw (p.1, p.2) (front-stops c.args.draft.now (added_at c.args.draft.now.view c.args.arguments.now.to)
    (locks_replaced c.args.renaming.now) _ c.in_err-move_entry.ensures)

pub returns-in_err-rehome : goal.returns-in_err-rehome
returns-in_err-rehome c =
    let p = err_from_is_err_and c.from_residual-in_err-rehome.result c.from_residual-in_err-rehome.ensures.1 in
    let moved = c.args.renaming.now.moved in
    rw (p.1, p.2) (later-named c.args.draft.now c.move_entry.new.draft _
    (added_at c.args.draft.now.view c.args.arguments.now.to ++ locks_replaced c.args.renaming.now) _
    c.in_ok-move_entry.ensures
    (lives-stops c.move_entry.new.draft moved.number _
    (lives-on c.args.draft.now c.move_entry.new.draft _ (addresses.Inode moved.number) c.in_ok-move_entry.ensures
    (known-lives c.args.draft.now moved c.requires.none (λ s k w. (c.requires.finds s k w).moved.1)))
    c.in_err-rehome.ensures))

pub lose_replaced-requires-clause-alone : goal.lose_replaced-requires-clause-alone
lose_replaced-requires-clause-alone c =
    replaced-changes c.args.draft.now c.rehome.new.draft _ c.args.renaming.now.replaced
    (turns-both c.args.draft.now c.move_entry.new.draft c.rehome.new.draft _ _ c.in_ok-move_entry.ensures
    c.in_ok-rehome.ensures) c.requires.alone.replaced

pub lose_replaced-requires-clause-locks : goal.lose_replaced-requires-clause-locks
lose_replaced-requires-clause-locks c =
    ap (λ m. m.locks) (turns-both c.args.draft.now c.move_entry.new.draft c.rehome.new.draft _ _
    c.in_ok-move_entry.ensures c.in_ok-rehome.ensures).modes ∙ c.requires.alone.locks

pub lose_replaced-requires-clause-lives : goal.lose_replaced-requires-clause-lives
lose_replaced-requires-clause-lives c =
    over-lives c.args.draft.now c.rehome.new.draft _ c.args.renaming.now.replaced
    (turns-both c.args.draft.now c.move_entry.new.draft c.rehome.new.draft _ _ c.in_ok-move_entry.ensures
    c.in_ok-rehome.ensures)
    c.requires.none (λ s k w. (c.requires.finds s k w).replaced.1)

pub lose_replaced-requires-clause-counts : goal.lose_replaced-requires-clause-counts
lose_replaced-requires-clause-counts c =
    let now = time_of c.args.draft.now.ctx.moment in
    let r = c.args.renaming.now in
    over-counts c.args.draft.now c.rehome.new.draft
    (λ k. rehomed now r.moved.number r.to.known.number (entry_moved now c.args.arguments.now r c.args.cookie k))
    r.replaced
    c.requires.none
    (turned-both c.args.draft.now c.move_entry.new.draft c.rehome.new.draft
    (entry_moved now c.args.arguments.now r c.args.cookie) (λ t. rehomed t r.moved.number r.to.known.number)
    c.in_ok-move_entry.ensures c.in_ok-rehome.ensures)
    (moved-lived now c.args.arguments.now r c.args.cookie)

pub returns : goal.returns
returns c =
    let now = time_of c.args.draft.now.ctx.moment in
    let r = c.args.renaming.now in
    turned-after c.args.draft.now c.rehome.new.draft c.lose_replaced.new.draft
    (λ k. rehomed now r.moved.number r.to.known.number (entry_moved now c.args.arguments.now r c.args.cookie k))
    (λ t. replaced_lost t r) c.lose_replaced.result (StopsAt c.rehome.new.draft (locks_replaced r))
    (StopsAt c.args.draft.now (added_at c.args.draft.now.view c.args.arguments.now.to ++ locks_replaced r))
    (λ halt stops. back-stops c.args.draft.now (added_at c.args.draft.now.view c.args.arguments.now.to)
    (locks_replaced r) halt
    (stops-before c.args.draft.now c.rehome.new.draft _ (λ view. locks_replaced r) halt
    (turns-both c.args.draft.now c.move_entry.new.draft c.rehome.new.draft _ _ c.in_ok-move_entry.ensures
    c.in_ok-rehome.ensures) stops))
    (turned-both c.args.draft.now c.move_entry.new.draft c.rehome.new.draft
    (entry_moved now c.args.arguments.now r c.args.cookie) (λ t. rehomed t r.moved.number r.to.known.number)
    c.in_ok-move_entry.ensures c.in_ok-rehome.ensures) c.lose_replaced.ensures
