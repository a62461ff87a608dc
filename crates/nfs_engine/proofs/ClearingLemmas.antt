-- Sweeps behind each other leave an engine that stands where it stood.
use Rattle.std.proofs.Common.{◌≡◌, ◌∙◌, ℕ, ◌+◌, Bool, Option, Some, None, ap, arith, refl, subst, sym}
use Rattle.nfs_machine.specs.State.{State}
use Rattle.nfs_engine.specs.Book.{BookValue, StandsFor, store_in}
use Rattle.nfs_engine.specs.Clearing.{Clears}
use Rattle.nfs_engine.specs.Engine.{EngineValue, KeepsAll, KeepsCounters}
use Rattle.nfs_engine.specs.Sweeps.{IsSweptAt}
use Rattle.nfs_engine.proofs.SweptBookLemmas.{stands-swept}

-- nothing went
pub clears-none : (e : EngineValue) → Clears e e
clears-none e = record {
  stands = λ m stands. stands;
  rest = refl;
  held = λ a j. refl;
  counters = record { ids = refl; generations = λ k. refl };
}

-- one behind the other
pub clears-both : (e m f : EngineValue) → Clears e m → Clears m f → Clears e f
clears-both e m f one two = record {
  stands = λ s stands. two.stands s (one.stands s stands);
  rest = two.rest ∙ ap (λ (b : BookValue). record b { objects = f.book.objects }) one.rest;
  held = λ a j. two.held a j ∙ one.held a j;
  counters = record {
    ids = two.counters.ids ∙ one.counters.ids;
    generations = λ k. two.counters.generations k ∙ one.counters.generations k;
  };
}

-- a page went, or nothing
pub clears-swept : (e f : EngineValue) (file : ℕ) (last : Option Bool)
    → IsSweptAt (store_in e.book) (store_in f.book) file last → KeepsAll e f → KeepsCounters e f
    → f.book ≡ record e.book { objects = f.book.objects } → Clears e f
clears-swept e f file last swept others counters rest = record {
  stands = λ m. stands last swept m;
  rest = rest;
  held = λ a j. (others (j + 1)).holds a j (λ (same : j ≡ j + 1). omega (arith, same));
  counters = counters;
} where
  stands : (last : Option Bool) → IsSweptAt (store_in e.book) (store_in f.book) file last → (m : State)
      → StandsFor (store_in e.book) m → StandsFor (store_in f.book) m
  stands (Some b) (w, same, sweeps, decides) m = stands-swept (store_in e.book) (store_in f.book) w m sweeps
  stands None same m = subst (λ s. StandsFor s m) (sym same)
