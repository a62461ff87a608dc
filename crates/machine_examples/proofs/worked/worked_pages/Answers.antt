use Rattle.std.proofs.Common.{refl, [], ◌∷◌}
use Rattle.nfs_machine.proofs.PageLemmas.{fits-shrinks, page-ends, page-first, page-none, page-stops}
use Rattle.nfs_machine.specs.Pages.{behind, fits}
use Rattle.machine_examples.specs.WorkedPages.{a, b, c, d, e, f, dot, dots, full, later}
use Rattle.machine_examples.proofs.worked.worked_pages.Goals as goal

pub returns : goal.returns
returns w = record {
  no_room = page-none (fits 103) (fits-shrinks 103) (behind 0 full) refl;
  room_for_none = page-first (fits 104) (fits-shrinks 104) dot (dots ∷ a ∷ b ∷ c ∷ d ∷ e ∷ []) refl;
  one = page-stops (fits 159) (fits-shrinks 159) dot [] dots (a ∷ b ∷ c ∷ d ∷ e ∷ []) refl refl;
  two = page-stops (fits 160) (fits-shrinks 160) dot (dots ∷ []) a (b ∷ c ∷ d ∷ e ∷ []) refl refl;
  next = page-stops (fits 160) (fits-shrinks 160) a (b ∷ []) c (d ∷ e ∷ []) refl refl;
  after_changes = page-ends (fits 65536) (d ∷ e ∷ f ∷ []) refl;
  past_end = page-ends (fits 104) [] refl;
  no_room_past_end = page-none (fits 103) (fits-shrinks 103) (behind 8 later) refl;
  gone = page-stops (fits 160) (fits-shrinks 160) b (d ∷ []) e (f ∷ []) refl refl;
}
