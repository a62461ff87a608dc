use Rattle.nfs_inodes.proofs.UsageChangeLemmas.{stands-first, stands-on}
use Rattle.machine_tests.proofs.tests.makers.come_and_go.Goals as goal

pub add_entry-requires-clause-stands : goal.add_entry-requires-clause-stands
add_entry-requires-clause-stands c = stands-first c.args.draft.now c.requires.none

pub add_entry-requires-2-clause-stands : goal.add_entry-requires-2-clause-stands
add_entry-requires-2-clause-stands c =
    stands-on c.args.draft.now c.add_entry.new.draft _ c.in_ok-add_entry.ensures.turns
    (stands-first c.args.draft.now c.requires.none)

pub take_entry-requires-clause-stands : goal.take_entry-requires-clause-stands
take_entry-requires-clause-stands c =
    stands-on c.add_entry.new.draft c.add_entry-2.new.draft _ c.in_ok-add_entry-2.ensures.turns
    (stands-on c.args.draft.now c.add_entry.new.draft _ c.in_ok-add_entry.ensures.turns
    (stands-first c.args.draft.now c.requires.none))
