use Rattle.std.proofs.Common.{◌∙◌, ◌==◌, ◌&&◌, ap, is_some, not, refl, sym}
use Rattle.std.specs.Arc.{arc_value}
use Rattle.nfs_tables.specs.Tables.{entries}
use Rattle.nfs_engine.proofs.StandingCountLemmas.{given-some}
use Rattle.nfs_engine.proofs.TidySlotLemmas.{idle-nowhere, idle-there}
use Rattle.nfs_engine.proofs.objects.is_idle.Goals as goal

pub returns-then-is_none : goal.returns-then-is_none
returns-then-is_none c =
    let kept = c.in-Some.kept.now in
    let none = c.is_none.ensures ∙ ap not c.if-is_none.true in
    ap (λ t. not t && kept.last == 0) (sym none ∙ given-some arc_value kept.object (is_some kept.object) refl)
    ∙ idle-there c.args.address (entries c.args.slots.now) kept c.in-Some.ensures.value

pub returns-else-is_none : goal.returns-else-is_none
returns-else-is_none c =
    let kept = c.in-Some.kept.now in
    let some = c.is_none.ensures ∙ ap not c.if-is_none.false in
    c.if-is_none.false
    ∙ ap (λ t. not t && kept.last == 0) (sym some ∙ given-some arc_value kept.object (is_some kept.object) refl)
    ∙ idle-there c.args.address (entries c.args.slots.now) kept c.in-Some.ensures.value

pub returns-in-None : goal.returns-in-None
returns-in-None c = idle-nowhere c.args.address (entries c.args.slots.now) c.in-None.ensures.value
