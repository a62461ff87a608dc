use Rattle.std.proofs.Common.{◌≡◌, ◌∙◌, Bool, true, false, not, Option, Some, None, is_none, is_some, refl, sym, ap}
use Rattle.std.specs.Borrow.{Bor}
use Rattle.std.specs.Option.{option_copied}
use Rattle.nfs_machine.specs.Exports.{export_value}
use Rattle.nfs_machine.specs.Replacing.{is_new}
use Rattle.nfs_objects.proofs.ExportTableLemmas.{item-at}
use Rattle.nfs_objects.proofs.RenumberLemmas.{none-new, one-new}
use Rattle.nfs_objects.proofs.exports.ExportTable.new_count.Goals as goal
use Rattle.nfs_objects.proofs.exports.ExportTable.new_count.Goals.{then-is_none, else-is_none}

-- what is lent is none where nothing is lent
lent-none : {X : Type 0} (found : Option (Bor X)) (none : Bool) → is_some found ≡ not none →
    is_none (option_copied found) ≡ none
lent-none None true is = refl
lent-none None false is = cc
lent-none (Some x) true is = cc
lent-none (Some x) false is = refl

pub loop-export-preserved : goal.loop-export-preserved
loop-export-preserved c =
    let living = c.args.self.now.exports in
    let at = item-at c.args.exports.now c.list-export-items.result.now c.loop-export.export-index c.export-item.result
    c.list-export-items.ensures.list c.loop-export-test.true c.export-item.is in
    let new : is_new living (export_value c.export-item.result) ≡ c.is_none.result =
    ap is_none (sym c.with_path.ensures) ∙ lent-none c.with_path.result c.is_none.result c.is_none.ensures in
    elim c.if-is_none.branch [
      | then-is_none w ↦ w.count-is ∙ one-new living c.args.exports.now c.loop-export.export-index
          (export_value c.export-item.result) at c.loop-export.count c.loop-export.invariant
          (new ∙ w.if-is_none.true)
      | else-is_none w ↦ w.count-is ∙ none-new living c.args.exports.now c.loop-export.export-index
          (export_value c.export-item.result) at c.loop-export.count c.loop-export.invariant
          (new ∙ w.if-is_none.false)
    ]
