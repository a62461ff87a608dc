use Rattle.std.proofs.Common.{[]}
use Rattle.nfs_objects.specs.Calls.{addresses_of}
use Rattle.nfs_inodes.proofs.EntryAsksLemmas.{entering-asking}
use Rattle.nfs_inodes.proofs.UsageChangeLemmas.{stands-first}
use Rattle.nfs_inodes.proofs.content.naming.ask_left.Goals as goal

pub ask_loss-requires-clause-stands : goal.ask_loss-requires-clause-stands
ask_loss-requires-clause-stands c = stands-first c.args.draft.now c.requires.none

pub returns : goal.returns
returns c =
    let d = c.args.draft.now in
    let named = addresses_of d.view c.args.directory.now.known.number in
    c.ask.ensures.stops d named
    (entering-asking d [] named c.new-asking.result.asked.items c.ask_loss.new.asking.asked.items c.new-asking.ensures
    c.in_ok-ask_loss.ensures (λ a none. absurd none))
