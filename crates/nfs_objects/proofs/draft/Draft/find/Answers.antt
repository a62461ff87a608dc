use Rattle.std.proofs.Common.{sym, ap, ◌∙◌}
use Rattle.nfs_objects.proofs.SeenLemmas.{written-none, written-or}
use Rattle.nfs_objects.specs.Values.{DraftValue, shown_at}
use Rattle.nfs_objects.proofs.draft.Draft.find.Goals as goal

pub returns-in-Some : goal.returns-in-Some
returns-in-Some c = written-or c.args.self.now.writes _ c.args.address _ (sym c.in-Some.ensures)

pub returns-in-Some-find : goal.returns-in-Some-find
returns-in-Some-find c =
    written-none c.args.self.now.writes _ c.args.address (sym c.in_default.ensures)
    ∙ ap (λ (v : DraftValue). shown_at v.view.entries c.args.address) (sym c.self.view_is)
    ∙ sym c.in-Some-find.ensures
