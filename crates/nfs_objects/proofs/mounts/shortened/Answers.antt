use Rattle.std.proofs.Common.{◌≡◌, ap, drop, sym, ◌∙◌, rules}
use Rattle.std.proofs.lemmas.Result.{IfOk-weaker}
use Rattle.std.specs.Arc.{arc_value}
use Rattle.nfs_objects.proofs.mounts.shortened.Goals as goal

pub returns-then-count-eq0 : goal.returns-then-count-eq0
returns-then-count-eq0 c =
    let none : c.args.count ≡ 0 = search rules in
    IfOk-weaker c.try_clone.result _ _
    (λ rest same. same ∙ ap (λ n. drop n (arc_value c.args.piece.now)) (sym none)) c.try_clone.ensures
