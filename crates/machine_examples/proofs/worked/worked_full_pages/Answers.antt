use Rattle.std.proofs.Common.{refl, [], ◌∷◌}
use Rattle.nfs_machine.proofs.PageLemmas.{full-shrinks, page-ends, page-first, page-stops}
use Rattle.nfs_machine.specs.Pages.{fits_full}
use Rattle.machine_examples.specs.WorkedPages.{dot, dots}
use Rattle.machine_examples.proofs.worked.worked_full_pages.Goals as goal

pub returns : goal.returns
returns w = record {
  no_room = page-first (fits_full 65536 259) (full-shrinks 65536 259) dot (dots ∷ []) refl;
  one = page-stops (fits_full 65536 260) (full-shrinks 65536 260) dot [] dots [] refl refl;
  almost_two = page-stops (fits_full 65536 415) (full-shrinks 65536 415) dot [] dots [] refl refl;
  two = page-ends (fits_full 65536 416) (dot ∷ dots ∷ []) refl;
  no_names = page-first (fits_full 27 65536) (full-shrinks 27 65536) dot (dots ∷ []) refl;
  one_name = page-stops (fits_full 28 65536) (full-shrinks 28 65536) dot [] dots [] refl refl;
  two_names = page-ends (fits_full 56 65536) (dot ∷ dots ∷ []) refl;
}
