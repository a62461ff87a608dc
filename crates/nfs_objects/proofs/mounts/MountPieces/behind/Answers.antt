use Rattle.std.proofs.Common.{◌≡◌, ◌≤◌, ◌∷◌, ◌++◌, ap, drop, length, map, subst, sym, ◌∙◌}
use Rattle.std.specs.Arc.{arc_value}
use Rattle.nfs_objects.proofs.MountTableLemmas.{others-kept}
use Rattle.nfs_objects.proofs.mounts.MountPieces.behind.Goals as goal
use Rattle.nfs_objects.specs.MountTables.{first_piece, joined}

pub returns-in-Some : goal.returns-in-Some
returns-in-Some c =
    let first = arc_value c.in-Some.first.now in
    let others = map arc_value c.in-Some.pieces.now in
    let cut : c.args.self.now ≡ first ∷ others =
    sym c.as_slice.ensures.pieces ∙ ap (map arc_value) c.in-Some.ensures.cases.0 in
    let within = subst (λ ps. c.args.count ≤ length (first_piece ps)) cut c.requires in
    ap (λ front. front ++ joined others ++ c.args.others.now)
    (c.behind.ensures ∙ ap (drop c.args.count) c.deref.ensures)
    ∙ ap (λ xs. xs ++ c.args.others.now) (others-kept first others c.args.count within)
    ∙ ap (λ ps. drop c.args.count (joined ps) ++ c.args.others.now) (sym cut)
