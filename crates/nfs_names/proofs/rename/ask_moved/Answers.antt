use Rattle.std.proofs.Common.{◌++◌, refl}
use Rattle.std.proofs.lemmas.Result.{err_from_is_err_and}
use Rattle.nfs_objects.specs.Calls.{added_at, locks_at}
use Rattle.nfs_inodes.proofs.ReaderHaltLemmas.{any-stops, halts-as, lives-stops}
use Rattle.nfs_inodes.proofs.UsageChangeLemmas.{usage-lives-first}
use Rattle.nfs_inodes.proofs.WriteAsksLemmas.{back-stops, front-stops}
use Rattle.nfs_inodes.specs.Entered.{grown_at}
use Rattle.nfs_inodes.specs.Stops.{StopsAt}
use Rattle.nfs_names.proofs.NameGrowsLemmas.{giving-as}
use Rattle.nfs_names.proofs.NamedLocksLemmas.{lost-stops}
use Rattle.nfs_names.specs.Renames.{locks_replaced}
use Rattle.nfs_names.proofs.rename.ask_moved.Goals as goal

pub ask_left-requires-clause-shown : goal.ask_left-requires-clause-shown
ask_left-requires-clause-shown c = c.requires.shown.0

pub returns-in_err-ask_left : goal.returns-in_err-ask_left
returns-in_err-ask_left c =
    let p = err_from_is_err_and c.from_residual.result c.from_residual.ensures.1 in
    let d = c.args.draft.now in
    let r = c.args.renaming.now in
    rw (p.1, p.2) (any-stops d (added_at d.view c.args.arguments.now.to ++ locks_replaced r) _
    (lives-stops d r.from.known.number _ c.requires.from c.in_err-ask_left.ensures))

pub ask_lost-requires-clause-shown : goal.ask_lost-requires-clause-shown
ask_lost-requires-clause-shown c = c.requires.shown.1

pub returns-in_err-ask_lost : goal.returns-in_err-ask_lost
returns-in_err-ask_lost c =
    let p = err_from_is_err_and c.from_residual-in_err-ask_lost.result c.from_residual-in_err-ask_lost.ensures.1 in
    let d = c.args.draft.now in
    let r = c.args.renaming.now in
    rw (p.1, p.2) (back-stops d (added_at d.view c.args.arguments.now.to) (locks_replaced r) _
    (rw c.in-Some.is (lost-stops d r.to.known.number c.in-Some.replaced.number (locks_at c.in-Some.replaced.number) _
    c.requires.to (rw c.in-Some.is at c.requires.lives)
    (usage-lives-first d c.in-Some.replaced.number c.requires.none) (λ a among. among) c.in_err-ask_lost.ensures)))

pub ask_given-requires-clause-shown : goal.ask_given-requires-clause-shown
ask_given-requires-clause-shown c = c.requires.shown.1

pub returns : goal.returns
returns c =
    let d = c.args.draft.now in
    let a = c.args.arguments.now in
    let r = c.args.renaming.now in
    let to = r.to.known in
    let name = c.as_slice-name.result.now in
    halts-as (StopsAt d (grown_at d to.number name c.args.cookie))
    (StopsAt d (added_at d.view a.to ++ locks_replaced r)) _
    (λ halt stops. front-stops d (added_at d.view a.to) (locks_replaced r) halt
    (giving-as d a.to to to name c.args.cookie halt refl c.as_slice-name.ensures c.requires.none c.requires.shown.1
    c.requires.target c.requires.next c.requires.to stops))
    c.ask_given.ensures
