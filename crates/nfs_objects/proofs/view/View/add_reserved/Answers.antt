use Rattle.std.proofs.Common.{◌≡◌, ◌++◌, [], ◌∷◌, None, sym, ap, ◌∙◌, subst}
use Rattle.nfs_objects.proofs.SeenLemmas.{view-last}
use Rattle.nfs_objects.specs.Fits.{IsView, vacant}
use Rattle.nfs_objects.specs.Values.{ViewValue, seen_at}
use Rattle.nfs_objects.specs.declared.address.Addr.TheVariants.{Inode}
use Rattle.nfs_objects.proofs.view.View.add_reserved.Goals as goal

pub invariant_of-self-2 : goal.invariant_of-self-2
invariant_of-self-2 c =
    let old : ViewValue = record { entries = c.self.inside.entries.seen; reserved = c.self.inside.reserved.items } in
    let unseen : seen_at old.entries (Inode c.args.reserved.number) ≡ None =
    ap (λ (v : ViewValue). seen_at v.entries (Inode c.args.reserved.number)) c.self.view_is ∙ c.requires in
    let seen : c.push.new.self.seen ≡ old.entries ++ vacant c.args.reserved ∷ [] =
    c.push.ensures.seen ∙ ap (λ es. es ++ vacant c.args.reserved ∷ []) c.reserve.ensures.kept in
    let pushed : c.push_reserved.new.self.items ≡ old.reserved ++ c.args.reserved ∷ [] =
    c.push_reserved.ensures.items ∙ ap (λ rs. rs ++ c.args.reserved ∷ []) c.reserve-2.ensures.items in
    subst IsView (λ i. record { entries = sym seen i; reserved = sym pushed i })
    (view-last old c.args.reserved c.self.invariant unseen)
