use Rattle.std.proofs.Common.{◌==◌, [], ◌∷◌, refl}
use Rattle.std.specs.FinMap.{empty, get-empty}
use Rattle.std.specs.Ordering.{nat_cmp}
use Rattle.machine_examples.specs.WorkedNames.{a_share, grant_of, lock_of, request_of}
use Rattle.machine_examples.proofs.OneFileLemmas.{grants-gone, removed-first}
use Rattle.machine_examples.proofs.worked.worked_removals.Goals as goal

pub returns : goal.returns
returns c = record {
  remove_directory = refl;
  remove_file = refl;
  remove_link = refl;
  rmdir_file = refl;
  rmdir_full = refl;
  rmdir_empty = refl;
  first_taken = refl;
  second_taken = refl;
  none_taken = refl;
  last_name = λ m o. refl;
  other_name = λ m o. refl;
  changed = refl;
  locks_go = λ m process. removed-first empty 5 4 (lock_of process ∷ []) (lock_of process ∷ []) refl
      (get-empty nat_cmp 4);
  shares_go = λ m. removed-first empty 5 4 (a_share ∷ []) (a_share ∷ []) refl (get-empty nat_cmp 4);
  waiting_go = λ m lock. removed-first empty 5 4 (request_of lock ∷ []) (request_of lock ∷ []) refl
      (get-empty nat_cmp 4);
  grants_go = λ m lock. grants-gone 2 1 (grant_of lock 5) (grant_of lock 4) (λ g. g.file == 4) refl refl refl;
}
