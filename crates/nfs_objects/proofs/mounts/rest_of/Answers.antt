use Rattle.std.proofs.Common.{◌≡◌, false, ap, sym, ◌∙◌, rules}
use Rattle.std.proofs.lemmas.Result.{IfOk-weaker}
use Rattle.std.specs.Arc.{arc_value}
use Rattle.std.specs.List.{list_any}
use Rattle.nfs_objects.proofs.MountTableLemmas.{all-stay}
use Rattle.nfs_objects.proofs.mounts.rest_of.Goals as goal
use Rattle.nfs_objects.specs.Leaving.{leaves}

pub returns-then-not-has : goal.returns-then-not-has
returns-then-not-has c =
    let unset : c.has.result ≡ false = search rules in
    let none : list_any (leaves c.args.leaving) (arc_value c.args.piece.now) ≡ false =
    ap (list_any (leaves c.args.leaving)) (sym c.deref.ensures) ∙ sym c.has.ensures ∙ unset in
    IfOk-weaker c.try_clone.result _ _
    (λ rest same. same ∙ all-stay (leaves c.args.leaving) (arc_value c.args.piece.now) none) c.try_clone.ensures
