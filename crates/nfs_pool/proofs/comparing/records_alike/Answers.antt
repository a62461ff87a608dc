use Rattle.std.proofs.Common.{◌∙◌, sym}
use Rattle.std.specs.Cmp.Lexicographic.{bytes_decides}
use Rattle.std.proofs.lemmas.Bool.{true≢false}
use Rattle.nfs_engine.specs.Arrivals.{received_value}
use Rattle.nfs_pool.proofs.ReceiptNumberLemmas.{received_same}
use Rattle.nfs_pool.proofs.comparing.records_alike.Goals as goal
use Rattle.nfs_pool.proofs.comparing.records_alike.Goals.{then-eq, else-eq}

pub returns-then-eq-2 : goal.returns-then-eq-2
returns-then-eq-2 c = elim c.if-eq.branch [
  | then-eq w ↦ received_same (received_value c.args.one.now) (received_value c.args.other.now) c.eq-then-eq-2.result
      (sym c.text.ensures.text ∙ (bytes_decides _ _).0 (sym c.eq.ensures ∙ w.if-eq.true) ∙ c.text-2.ensures.text)
      ((bytes_decides _ _).0 (sym w.eq-then-eq.ensures ∙ sym w.value-is ∙ c.if-eq-2.true))
      c.eq-then-eq-2.ensures
  | else-eq w ↦ absurd (true≢false (sym c.if-eq-2.true ∙ w.value-is ∙ w.if-eq.false))
]
