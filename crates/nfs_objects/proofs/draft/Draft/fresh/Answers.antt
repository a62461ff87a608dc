use Rattle.std.proofs.Common.{◌≡◌, arith, sym, ap, ◌∙◌, refl, List, [], ◌∷◌, slice_get, None, map}
use Rattle.std.proofs.Common.{subst}
use Rattle.nfs_objects.proofs.DraftLemmas.{is-first}
use Rattle.nfs_objects.specs.Asks.{IsFirst}
use Rattle.nfs_objects.specs.Values.{DraftValue, modes_value, write_value}
use Rattle.nfs_objects.proofs.draft.Draft.fresh.Goals as goal

none-first : {X : Type 0} (xs : List X) → None ≡ slice_get xs 0 → xs ≡ []
none-first [] e = refl
none-first (x ∷ xs) e = cc

pub returns-in-None : goal.returns-in-None
returns-in-None c = record {
  none =
      ap (λ (v : DraftValue). v.view.reserved) (sym c.self.view_is)
      ∙ none-first c.self.inside.view.now.reserved c.in-None.ensures.first;
  some = omega arith;
  whole = refl;
}

pub returns-in-Some : goal.returns-in-Some
returns-in-Some c =
    subst (λ (d : DraftValue). IsFirst d c.in-Some.reserved) c.self.view_is
    (is-first (record {
      ctx = c.self.inside.ctx.now;
      view = c.self.inside.view.now;
      modes = modes_value c.self.inside.modes;
      writes = map write_value c.self.inside.writes.items;
      messages = c.self.inside.messages.items;
    }) c.in-Some.reserved c.in-Some.ensures.first c.in-Some.ensures.kept)
