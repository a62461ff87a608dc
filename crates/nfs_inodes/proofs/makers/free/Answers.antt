use Rattle.std.proofs.Common.{◌++◌, ◌∙◌, ℕ, ap, inl, inr}
use Rattle.std.proofs.lemmas.Result.{err_from_is_err_and}
use Rattle.nfs_objects.proofs.KnowsLemmas.{among-behind, covers-among, stops-wider}
use Rattle.nfs_objects.proofs.PromiseLemmas.{turned-change, turns-both}
use Rattle.nfs_objects.proofs.ModesSuitLemmas.{change-counts}
use Rattle.nfs_objects.specs.Calls.{addresses_of, locks_at}
use Rattle.nfs_objects.specs.Knows.{Turns}
use Rattle.nfs_objects.specs.Stands.{StoreMeaning}
use Rattle.nfs_objects.specs.Values.{DraftValue}
use Rattle.nfs_objects.specs.declared.address.Addr.TheVariants as addresses
use Rattle.nfs_inodes.specs.Counts.{uncounted}
use Rattle.nfs_inodes.specs.Locks.{locks_freed}
use Rattle.nfs_inodes.specs.Stops.{counted_at}
use Rattle.nfs_inodes.proofs.UsageChangeLemmas.{stands-on}
use Rattle.nfs_inodes.proofs.BuriedFileLemmas.{buried-generation, buried-known, buried-turns}
use Rattle.nfs_inodes.proofs.FilePutLemmas.{gone-turns, laid-change}
use Rattle.nfs_inodes.proofs.FileWithLocksLemmas.{forgotten-removed}
use Rattle.nfs_inodes.proofs.ObjectGoesLemmas.{entries-stand, known-left, laid-stops, locked-stops, nothing-left}
use Rattle.nfs_inodes.proofs.ReaderHaltLemmas.{stops-before}
use Rattle.nfs_inodes.proofs.AsksAfterWritesLemmas.{may-change-on}
use Rattle.nfs_inodes.proofs.PutObjectLemmas.{knows-kept, object-stops}
use Rattle.nfs_inodes.proofs.makers.free.Goals as goal

-- what the draft came to behind its locks
abbrev forgot : ℕ → StoreMeaning → StoreMeaning
forgot number k = locks_freed number (uncounted number k)

turned : (n : ℕ) (d mid after : DraftValue) → Turns d mid (uncounted n) → Turns mid after (locks_freed n) →
    Turns d after (forgot n)
turned n d mid after counts forgets = turns-both d mid after (uncounted n) (locks_freed n) counts forgets

pub uncount-requires : goal.uncount-requires
uncount-requires c = change-counts c.args.draft.now c.args.number c.requires.alone

pub forget_locks-requires : goal.forget_locks-requires
forget_locks-requires c = ap (λ m. m.locks) c.in_ok-uncount.ensures.turns.modes ∙ c.requires.locks

pub returns-in_err-uncount : goal.returns-in_err-uncount
returns-in_err-uncount c =
    let p = err_from_is_err_and c.from_residual.result c.from_residual.ensures.1 in
    rw (p.1, p.2) (locked-stops c.args.draft.now c.args.number _ c.in_err-uncount.ensures.turns)

pub returns-in_err-forget_locks : goal.returns-in_err-forget_locks
returns-in_err-forget_locks c =
    let p = err_from_is_err_and c.from_residual-in_err-forget_locks.result
    c.from_residual-in_err-forget_locks.ensures.1 in
    let before = stops-before c.args.draft.now c.uncount.new.draft (uncounted c.args.number)
    (λ v. addresses_of v c.args.number ++ locks_at c.args.number) _ c.in_ok-uncount.ensures.turns
    c.in_err-forget_locks.ensures.turns in
    rw (p.1, p.2) (stops-wider c.args.draft.now.modes
    (addresses_of c.args.draft.now.view c.args.number ++ locks_at c.args.number)
    (counted_at c.args.draft.now c.args.number ++ locks_at c.args.number) 0 c.args.draft.now.view _
    (covers-among (addresses_of c.args.draft.now.view c.args.number ++ locks_at c.args.number)
    (counted_at c.args.draft.now c.args.number ++ locks_at c.args.number) c.args.draft.now.view
    (λ a among. elim among [
      | inl own ↦ inl own
      | inr lock ↦ among-behind (counted_at c.args.draft.now c.args.number) (locks_at c.args.number) a lock
    ])) before)

pub returns-in_err-left : goal.returns-in_err-left
returns-in_err-left c =
    let p = err_from_is_err_and c.from_residual-in_err-left.result c.from_residual-in_err-left.ensures.1 in
    rw (p.1, p.2) (locked-stops c.args.draft.now c.args.number _ (object-stops c.args.draft.now c.args.number _
    (stops-before c.args.draft.now c.forget_locks.new.draft (forgot c.args.number)
    (λ v. addresses_of v c.args.number) _
    (turned c.args.number _ _ _ c.in_ok-uncount.ensures.turns c.in_ok-forget_locks.ensures.turns)
    c.in_err-left.ensures)))

pub put-requires-clause-alone : goal.put-requires-clause-alone
put-requires-clause-alone c =
    turned-change c.args.draft.now c.forget_locks.new.draft (forgot c.args.number)
    (turned c.args.number _ _ _ c.in_ok-uncount.ensures.turns c.in_ok-forget_locks.ensures.turns)
    (addresses.Inode c.args.number) c.requires.alone

pub put-requires-clause-known : goal.put-requires-clause-known
put-requires-clause-known c =
    buried-known c.forget_locks.new.draft c.args.number c.in-Some.left (rw c.in-Some.is at c.in_ok-left.ensures)

pub put-requires-clause-given : goal.put-requires-clause-given
put-requires-clause-given c =
    buried-generation c.forget_locks.new.draft c.args.number c.in-Some.left
    (rw c.in-Some.is at c.in_ok-left.ensures)

pub returns-in-Some : goal.returns-in-Some
returns-in-Some c =
    forgotten-removed c.args.number c.args.draft.now c.uncount.new.draft c.forget_locks.new.draft c.put.new.self
    c.in_ok-uncount.ensures.turns c.in_ok-forget_locks.ensures.turns
    (buried-turns c.forget_locks.new.draft c.args.number c.in-Some.left (rw c.in-Some.is at c.in_ok-left.ensures)
    c.put.new.self c.in_ok-forget_locks.ensures.none c.in_ok-put.ensures.ok)

pub clear-requires-clause-alone : goal.clear-requires-clause-alone
clear-requires-clause-alone c =
    turned-change c.args.draft.now c.forget_locks.new.draft (forgot c.args.number)
    (turned c.args.number _ _ _ c.in_ok-uncount.ensures.turns c.in_ok-forget_locks.ensures.turns)
    (addresses.Inode c.args.number) c.requires.alone

pub clear-requires-clause-stands : goal.clear-requires-clause-stands
clear-requires-clause-stands c =
    stands-on c.args.draft.now c.forget_locks.new.draft (forgot c.args.number)
    (turned c.args.number _ _ _ c.in_ok-uncount.ensures.turns c.in_ok-forget_locks.ensures.turns) c.requires.stands

pub returns-in_err-clear : goal.returns-in_err-clear
returns-in_err-clear c =
    let p = err_from_is_err_and c.from_residual-in_err-clear.result c.from_residual-in_err-clear.ensures.1 in
    rw (p.1, p.2) (locked-stops c.args.draft.now c.args.number _ (object-stops c.args.draft.now c.args.number _
    (stops-before c.args.draft.now c.forget_locks.new.draft (forgot c.args.number)
    (λ v. addresses_of v c.args.number) _
    (turned c.args.number _ _ _ c.in_ok-uncount.ensures.turns c.in_ok-forget_locks.ensures.turns)
    c.in_err-clear.ensures)))

pub clear_entries-requires-clause-alone : goal.clear_entries-requires-clause-alone
clear_entries-requires-clause-alone c =
    laid-change c.args.number c.forget_locks.new.draft c.clear.new.draft c.in_ok-clear.ensures.lays
    (addresses.Inode c.args.number)
    (turned-change c.args.draft.now c.forget_locks.new.draft (forgot c.args.number)
    (turned c.args.number _ _ _ c.in_ok-uncount.ensures.turns c.in_ok-forget_locks.ensures.turns)
    (addresses.Inode c.args.number) c.requires.alone)

pub clear_entries-requires-clause-stands : goal.clear_entries-requires-clause-stands
clear_entries-requires-clause-stands c =
    entries-stand c.forget_locks.new.draft c.clear.new.draft c.args.number c.in_ok-clear.ensures
    (stands-on c.args.draft.now c.forget_locks.new.draft (forgot c.args.number)
    (turned c.args.number _ _ _ c.in_ok-uncount.ensures.turns c.in_ok-forget_locks.ensures.turns) c.requires.stands)

pub returns-in_err-clear_entries : goal.returns-in_err-clear_entries
returns-in_err-clear_entries c =
    let p = err_from_is_err_and c.from_residual-in_err-clear_entries.result
    c.from_residual-in_err-clear_entries.ensures.1 in
    rw (p.1, p.2) (locked-stops c.args.draft.now c.args.number _ (object-stops c.args.draft.now c.args.number _
    (stops-before c.args.draft.now c.forget_locks.new.draft (forgot c.args.number)
    (λ v. addresses_of v c.args.number) _
    (turned c.args.number _ _ _ c.in_ok-uncount.ensures.turns c.in_ok-forget_locks.ensures.turns)
    (laid-stops c.args.number c.forget_locks.new.draft c.clear.new.draft c.in_ok-clear.ensures.lays
    (λ v. addresses_of v c.args.number) _ c.in_err-clear_entries.ensures))))

pub free-requires-clause-alone : goal.free-requires-clause-alone
free-requires-clause-alone c =
    may-change-on c.args.number c.clear.new.draft c.clear_entries.new.draft c.in_ok-clear_entries.ensures.enters
    (addresses.Inode c.args.number)
    (laid-change c.args.number c.forget_locks.new.draft c.clear.new.draft c.in_ok-clear.ensures.lays
    (addresses.Inode c.args.number)
    (turned-change c.args.draft.now c.forget_locks.new.draft (forgot c.args.number)
    (turned c.args.number _ _ _ c.in_ok-uncount.ensures.turns c.in_ok-forget_locks.ensures.turns)
    (addresses.Inode c.args.number) c.requires.alone))

pub free-requires-clause-known : goal.free-requires-clause-known
free-requires-clause-known c =
    known-left c.forget_locks.new.draft c.clear.new.draft c.args.number c.in_ok-clear.ensures
    c.clear_entries.new.draft c.in_ok-clear_entries.ensures
    (knows-kept c.uncount.new.draft c.forget_locks.new.draft c.args.number c.in_ok-forget_locks.ensures.keeps
    c.in_ok-uncount.ensures.known)

pub returns : goal.returns
returns c =
    forgotten-removed c.args.number c.args.draft.now c.uncount.new.draft c.forget_locks.new.draft c.free.new.self
    c.in_ok-uncount.ensures.turns c.in_ok-forget_locks.ensures.turns
    (rw c.in_ok-free.ensures.ok (gone-turns c.forget_locks.new.draft c.clear.new.draft c.clear_entries.new.draft
    c.args.number c.in_ok-clear.ensures.lays c.in_ok-clear_entries.ensures.enters
    (nothing-left c.forget_locks.new.draft c.clear.new.draft c.args.number c.in_ok-clear.ensures
    c.clear_entries.new.draft c.in_ok-clear_entries.ensures) c.in_ok-forget_locks.ensures.none))
