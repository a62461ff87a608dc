use Rattle.std.proofs.Common.{◌++◌}
use Rattle.std.proofs.lemmas.Result.{err_from_is_err_and}
use Rattle.nfs_objects.specs.Calls.{addresses_of, locks_at}
use Rattle.nfs_inodes.proofs.MakerChainLemmas.{first-stops, second-stops}
use Rattle.nfs_inodes.proofs.UsageChangeLemmas.{stands-first}
use Rattle.nfs_inodes.proofs.ObjectGoesLemmas.{locked-stops}
use Rattle.nfs_inodes.proofs.LastNameAsksLemmas.{freed-asking}
use Rattle.nfs_inodes.proofs.PutObjectLemmas.{object-stops}
use Rattle.nfs_inodes.specs.Stops.{counted_at}
use Rattle.nfs_inodes.proofs.removing.ask_lost.Goals as goal

pub ask_loss-requires-clause-stands : goal.ask_loss-requires-clause-stands
ask_loss-requires-clause-stands c = stands-first c.args.draft.now c.requires.none

pub returns-in_err-ask_loss : goal.returns-in_err-ask_loss
returns-in_err-ask_loss c =
    let p = err_from_is_err_and c.from_residual.result c.from_residual.ensures.1 in
    rw (p.1, p.2) (first-stops c.args.draft.now c.args.directory.now.known.number
    (counted_at c.args.draft.now c.args.object.now.number ++ locks_at c.args.object.now.number) _
    c.in_err-ask_loss.ensures)

pub returns-in_err-ask_gone : goal.returns-in_err-ask_gone
returns-in_err-ask_gone c =
    let p = err_from_is_err_and c.from_residual-in_err-ask_gone.result c.from_residual-in_err-ask_gone.ensures.1 in
    rw (p.1, p.2) (second-stops c.args.draft.now (addresses_of c.args.draft.now.view c.args.directory.now.known.number)
    (counted_at c.args.draft.now c.args.object.now.number ++ locks_at c.args.object.now.number) _
    (locked-stops c.args.draft.now c.args.object.now.number _
    (object-stops c.args.draft.now c.args.object.now.number _ c.in_err-ask_gone.ensures)))

pub returns : goal.returns
returns c =
    let d = c.args.draft.now in
    c.ask.ensures.stops d
    (addresses_of d.view c.args.directory.now.known.number
    ++ (counted_at d c.args.object.now.number ++ locks_at c.args.object.now.number))
    (freed-asking d c.args.directory.now.known.number c.args.object.now.number c.new-asking.result.asked.items
    c.ask_loss.new.asking.asked.items c.ask_gone.new.asking.asked.items c.new-asking.ensures
    c.in_ok-ask_loss.ensures c.in_ok-ask_gone.ensures)
