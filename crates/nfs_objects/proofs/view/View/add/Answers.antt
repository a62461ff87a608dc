use Rattle.std.proofs.Common.{◌++◌, [], ◌∷◌, sym, ap, ◌∙◌, subst}
use Rattle.nfs_objects.proofs.SeenLemmas.{view-more}
use Rattle.nfs_objects.specs.Fits.{IsView}
use Rattle.nfs_objects.specs.Values.{Seen, seen_of}
use Rattle.nfs_objects.proofs.view.View.add.Goals as goal

pub invariant_of-self-2 : goal.invariant_of-self-2
invariant_of-self-2 c =
    let one : Seen = seen_of (c.args.address, record { mode = c.args.mode; object = c.args.object }) in
    subst (λ es. IsView (record { entries = es; reserved = c.self.inside.reserved.items }))
    (sym (c.push.ensures.seen ∙ ap (λ es. es ++ one ∷ []) c.reserve.ensures.kept))
    (view-more
    (record { entries = c.self.inside.entries.seen; reserved = c.self.inside.reserved.items }) (one ∷ [])
    c.self.invariant)
