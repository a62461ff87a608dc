use Rattle.machine_examples.proofs.RangesWorked.{locked}
use Rattle.std.proofs.Common.{refl}
use Rattle.machine_examples.specs.WorkedLocks.{whole}
use Rattle.nfs_machine.proofs.MapChangeLemmas.{differs-remove}
use Rattle.nfs_machine.proofs.FileMapLemmas.{of-other, of-there}
use Rattle.machine_examples.proofs.worked.worked_ranges.Goals as goal

pub returns : goal.returns
returns c = record {
  end_of_100 = refl;
  to_end = refl;
  last_byte = refl;
  above = refl;
  all_but_one = refl;
  shown = refl;
  shown_to_end = refl;
  locked = locked;
  at_39 = refl;
  at_40 = refl;
  at_59 = refl;
  at_60 = refl;
  at_100 = refl;
  of_other = refl;
  of_other_process = refl;
  of_other_owner = refl;
  of_other_caller = refl;
  of_file_5 = λ locks. of-there locks 5 whole;
  of_other_file = λ locks. of-other locks 5 whole 6 refl;
  of_no_lock = λ locks. differs-remove locks 5 5;
  shared_at_55 = refl;
  exclusive_at_45 = refl;
  shared_beside_shared = refl;
  shared_beside_exclusive = refl;
}
