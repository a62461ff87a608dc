use Rattle.std.proofs.Common.{◌≡◌, ap, arith, ◌+◌, length, sym, ◌∙◌}
use Rattle.std.proofs.lemmas.List.{length-map}
use Rattle.nfs_machine.specs.Exports.{export_value}
use Rattle.nfs_objects.proofs.ExportTableLemmas.{all-numbered-table, item-at, one-more}
use Rattle.nfs_objects.proofs.exports.ExportTable.opening.Goals as goal

pub loop-index-preserved : goal.loop-index-preserved
loop-index-preserved c =
    let at = item-at c.args.exports.now c.list-given.result.now c.loop-index.index c.index-given-index.result
    c.list-given.ensures.list c.loop-index-test.true c.index-given-index.is in
    one-more c.args.exports.now c.loop-index.index (export_value c.index-given-index.result) c.loop-index.list.items
    c.push.new.self.items _ c.loop-index.invariant c.in_ok-push.ensures.items
    (λ j. record {
      number = c.loop-index.index + 1;
      root = c.loop-index.index + 1;
      value = c.in_ok-copy_export.ensures j;
    }) at

pub invariant_of-result : goal.invariant_of-result
invariant_of-result c =
    let counted : length c.list-given.result.now ≡ length c.args.exports.now =
    sym (length-map c.list-given.result.now export_value) ∙ ap length c.list-given.ensures.list in
    all-numbered-table c.args.exports.now c.loop-index.index (length c.list-given.result.now) _
    c.list-given.ensures.faultless (ap (λ v. v.items) c.in_ok-new.ensures.ok ∙ c.loop-index.invariant)
    (omega (arith, counted, c.loop-index-test.false)) counted
