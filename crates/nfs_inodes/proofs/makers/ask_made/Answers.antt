use Rattle.std.proofs.Common.{◌++◌}
use Rattle.std.proofs.lemmas.Result.{err_from_is_err_and}
use Rattle.nfs_objects.proofs.KnowsLemmas.{fresh-stops}
use Rattle.nfs_objects.specs.Calls.{usages_of}
use Rattle.nfs_objects.specs.Sums.{is_same_usage}
use Rattle.nfs_inodes.proofs.EntryAsksLemmas.{grown-stops, made-asking}
use Rattle.nfs_inodes.proofs.PutObjectLemmas.{making-stops}
use Rattle.nfs_inodes.proofs.ReaderHaltLemmas.{halts-as, makes-stops}
use Rattle.nfs_inodes.proofs.UsageChangeLemmas.{stands-first}
use Rattle.nfs_inodes.specs.Entered.{grown_at}
use Rattle.nfs_inodes.specs.Stops.{StopsAt, StopsMaking}
use Rattle.nfs_inodes.proofs.makers.ask_made.Goals as goal

pub returns-in_err-reserved : goal.returns-in_err-reserved
returns-in_err-reserved c =
    let p = err_from_is_err_and c.from_residual.result c.from_residual.ensures.1 in
    rw (p.1, p.2) (fresh-stops c.args.draft.now
    (grown_at c.args.draft.now c.args.directory.now.known.number c.args.name.now c.args.cookie
    ++ usages_of c.args.directory.now.known.export 64) _ c.in_err-reserved.ensures)

pub ask_entry-requires-clause-stands : goal.ask_entry-requires-clause-stands
ask_entry-requires-clause-stands c = stands-first c.args.draft.now c.requires.none

pub returns-in_err-ask_entry : goal.returns-in_err-ask_entry
returns-in_err-ask_entry c =
    let p = err_from_is_err_and c.from_residual-in_err-ask_entry.result c.from_residual-in_err-ask_entry.ensures.1 in
    rw (p.1, p.2) (making-stops c.args.draft.now
    (grown_at c.args.draft.now c.args.directory.now.known.number c.args.name.now c.args.cookie)
    c.args.directory.now.known.export _ (grown-stops c.args.draft.now c.args.directory.now.known.number
    c.args.name.now c.args.cookie _ c.in_err-ask_entry.ensures))

pub returns : goal.returns
returns c =
    let d = c.args.draft.now in
    let grown = grown_at d c.args.directory.now.known.number c.args.name.now c.args.cookie in
    let export = c.args.directory.now.known.export in
    let all = grown ++ usages_of export 64 in
    halts-as (StopsAt d all) (StopsMaking d all) _ (makes-stops d all) (c.ask.ensures.stops d all
    (made-asking d grown export c.in_ok-reserved.reserved.number (is_same_usage c.none.result c.of_one.result)
    c.new-asking.result.asked.items c.ask_entry.new.asking.asked.items c.ask_counted.new.asking.asked.items
    c.new-asking.ensures c.in_ok-ask_entry.ensures c.in_ok-ask_counted.ensures))
