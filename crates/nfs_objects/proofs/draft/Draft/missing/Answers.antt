use Rattle.std.proofs.Common.{IsSome, refl, sym, ap, ◌∙◌, subst}
use Rattle.nfs_objects.proofs.SeenLemmas.{written-none, written-or}
use Rattle.nfs_objects.specs.Values.{DraftValue, shown_at}
use Rattle.nfs_objects.proofs.draft.Draft.missing.Goals as goal

pub returns-in-Some : goal.returns-in-Some
returns-in-Some c =
    subst (λ o. IsSome o) (sym (written-or c.args.self.now.writes _ c.args.address _ (sym c.in-Some.ensures))) refl

pub returns-in-Some-find : goal.returns-in-Some-find
returns-in-Some-find c =
    subst (λ o. IsSome o)
    (sym (written-none c.args.self.now.writes _ c.args.address (sym c.in_default.ensures)
    ∙ ap (λ (v : DraftValue). shown_at v.view.entries c.args.address) (sym c.self.view_is)
    ∙ sym c.in-Some-find.ensures)) refl

pub returns : goal.returns
returns c = (
  written-none c.args.self.now.writes _ c.args.address (sym c.in_default.ensures)
      ∙ ap (λ (v : DraftValue). shown_at v.view.entries c.args.address) (sym c.self.view_is)
      ∙ sym c.in_default-find.ensures,
  ap (λ mode. (c.args.address, mode)) c.mode.ensures,
)
