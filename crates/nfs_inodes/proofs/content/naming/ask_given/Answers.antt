use Rattle.std.proofs.lemmas.Result.{err_from_is_err_and}
use Rattle.nfs_inodes.proofs.EntryAsksLemmas.{entering-asking, grown-stops}
use Rattle.nfs_inodes.proofs.UsageChangeLemmas.{stands-first}
use Rattle.nfs_inodes.specs.Entered.{grown_at}
use Rattle.nfs_inodes.proofs.content.naming.ask_given.Goals as goal

pub ask_entry-requires-clause-stands : goal.ask_entry-requires-clause-stands
ask_entry-requires-clause-stands c = stands-first c.args.draft.now c.requires.none

pub returns-in_err-ask_entry : goal.returns-in_err-ask_entry
returns-in_err-ask_entry c =
    let p = err_from_is_err_and c.from_residual.result c.from_residual.ensures.1 in
    rw (p.1, p.2) (grown-stops c.args.draft.now c.args.directory.now.known.number c.args.name.now c.args.cookie _
    c.in_err-ask_entry.ensures)

pub returns : goal.returns
returns c =
    let d = c.args.draft.now in
    let named = grown_at d c.args.directory.now.known.number c.args.name.now c.args.cookie in
    c.ask.ensures.stops d named
    (entering-asking d named named c.new-asking.result.asked.items c.ask_entry.new.asking.asked.items
    c.new-asking.ensures c.in_ok-ask_entry.ensures (λ a among. among))
