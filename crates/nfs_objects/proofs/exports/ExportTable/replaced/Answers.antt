use Rattle.std.proofs.Common.{◌≡◌, ℕ, ◌+◌, ◌≤◌, ◌∙◌, List, length, max, sym, ap, subst, arith}
use Rattle.std.proofs.lemmas.List.{length-map}
use Rattle.nfs_machine.specs.Exports.{ExportValue, LivingExport, export_value}
use Rattle.nfs_objects.proofs.ExportTableLemmas.{item-at}
use Rattle.nfs_objects.proofs.RenumberLemmas.{IsSoFar, all-counted, all-listed, new-below, new-fits, one-more}
use Rattle.nfs_objects.proofs.RenumberLemmas.{replaced-table}
use Rattle.nfs_objects.specs.ExportTables.{ExportTableValue, IsExportTable}
use Rattle.nfs_objects.specs.Roots.{root_choice}
use Rattle.nfs_objects.specs.declared.view.Reserved.{Reserved}
use Rattle.nfs_objects.proofs.exports.ExportTable.replaced.Goals as goal

-- the root of each number
abbrev root : List Reserved → ExportTableValue → ℕ → ℕ
root roots t number = (root_choice roots t.last number).number

pub kept_or_new-requires-clause-room : goal.kept_or_new-requires-clause-room
kept_or_new-requires-clause-room c =
    let t = c.args.self.now in
    let at = item-at c.args.exports.now c.list-given.result.now c.loop-export.export-index c.export-item.result
    c.list-given.ensures.list c.loop-export-test.true c.export-item.is in
    λ none. new-fits t (root c.args.roots.now t) c.args.exports.now c.loop-export.export-index c.loop-export.last
    c.loop-export.list.items c.loop-export.invariant (export_value c.export-item.result) at none c.requires.room

pub kept_or_new-requires-clause-roots : goal.kept_or_new-requires-clause-roots
kept_or_new-requires-clause-roots c =
    let t = c.args.self.now in
    let at = item-at c.args.exports.now c.list-given.result.now c.loop-export.export-index c.export-item.result
    c.list-given.ensures.list c.loop-export-test.true c.export-item.is in
    λ none. (let below = new-below t (root c.args.roots.now t) c.args.exports.now c.loop-export.export-index
    c.loop-export.last c.loop-export.list.items c.loop-export.invariant (export_value c.export-item.result) at none in
    omega (arith, below, c.requires.roots))

pub loop-export-preserved : goal.loop-export-preserved
loop-export-preserved c =
    let t = c.args.self.now in
    let at = item-at c.args.exports.now c.list-given.result.now c.loop-export.export-index c.export-item.result
    c.list-given.ensures.list c.loop-export-test.true c.export-item.is in
    subst
    (λ (list : List LivingExport). IsSoFar t (root c.args.roots.now t) c.args.exports.now
    (c.loop-export.export-index + 1) c.max-last.result list)
    (sym c.in_ok-push.ensures.items)
    (one-more t (root c.args.roots.now t) c.args.exports.now c.loop-export.export-index c.loop-export.last
    c.loop-export.list.items c.loop-export.invariant (export_value c.export-item.result) at c.in_ok-living.living
    c.max-last.result c.last-last.ensures.table.numbered c.in_ok-living.ensures
    (c.max-last.ensures ∙ ap (max c.loop-export.last) c.number.ensures))

pub invariant_of-result : goal.invariant_of-result
invariant_of-result c =
    let t = c.args.self.now in
    let es = c.args.exports.now in
    let counted : length c.list-given.result.now ≡ length es =
    sym (length-map c.list-given.result.now export_value) ∙ ap length c.list-given.ensures.list in
    let all : length es ≤ c.loop-export.export-index = omega (arith, counted, c.loop-export-test.false) in
    let listed = ap (λ v. v.items) c.in_ok-new.ensures.ok ∙ all-listed t (root c.args.roots.now t) es
    c.loop-export.export-index c.loop-export.last c.loop-export.list.items c.loop-export.invariant all in
    let last = all-counted t (root c.args.roots.now t) es c.loop-export.export-index c.loop-export.last
    c.loop-export.list.items c.loop-export.invariant all in
    subst (λ (x : ExportTableValue). IsExportTable x) (λ j. record { exports = sym listed j; last = sym last j })
    (replaced-table t (root c.args.roots.now t) es c.last-last.ensures.table c.list-given.ensures.faultless
    c.requires.room)
