use Rattle.nfs_inodes.proofs.UsageChangeLemmas.{stands-first}
use Rattle.machine_tests.proofs.tests.makers.changed.Goals as goal

pub lose_link-requires-clause-stands : goal.lose_link-requires-clause-stands
lose_link-requires-clause-stands c = stands-first c.args.draft.now c.requires.none
