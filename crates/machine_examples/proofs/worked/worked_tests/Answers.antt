use Rattle.std.proofs.Common.{refl}
use Rattle.nfs_machine.proofs.ModesLemmas.{listed_locks_tell}
use Rattle.machine_examples.proofs.RangesWorked.{at-30, part-of-it, at-99, at-the-end}
use Rattle.machine_examples.specs.WorkedLocks.{a, b, range_at, split, Exclusive}
use Rattle.machine_examples.proofs.worked.worked_tests.Goals as goal

pub returns : goal.returns
returns c = record {
  at_30 = at-30;
  part_of_it = part-of-it;
  at_50 = listed_locks_tell split (range_at b 50 1) Exclusive refl;
  at_99 = at-99;
  at_the_end = at-the-end;
  own = listed_locks_tell split (range_at a 0 0) Exclusive refl;
}
