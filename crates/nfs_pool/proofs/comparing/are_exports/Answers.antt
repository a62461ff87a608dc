-- Exports are alike where the lists are one, and the moments.
use Rattle.std.proofs.Common.{◌≡◌, ◌∙◌, ap, subst, sym}
use Rattle.std.specs.Prelude.{Bool, false}
use Rattle.std.specs.Bool.{Decides}
use Rattle.nfs_machine.specs.Run.{Arrival, NewExports}
use Rattle.nfs_engine.specs.Arrivals.{incoming_value}
use Rattle.nfs_pool.proofs.ReceiptNumberLemmas.{exports_alike, lists_apart}
use Rattle.nfs_pool.proofs.comparing.are_exports.Goals as goal

pub returns-then-eq : goal.returns-then-eq
returns-then-eq c =
    subst (λ (a : Arrival). Decides c.eq-then-eq.result (NewExports c.args.exports.now c.args.moment ≡ a))
    (sym (ap incoming_value c.in-Exports.is))
    (exports_alike c.args.exports.now c.in-Exports.others c.args.moment c.in-Exports.other c.eq-then-eq.result
    (sym c.eq.ensures ∙ c.if-eq.true) c.eq-then-eq.ensures)

pub returns-else-eq : goal.returns-else-eq
returns-else-eq c =
    subst (λ (t : Bool). Decides t (NewExports c.args.exports.now c.args.moment ≡ incoming_value c.args.incoming.now))
    (sym c.if-eq.false)
    (subst (λ (a : Arrival). Decides false (NewExports c.args.exports.now c.args.moment ≡ a))
    (sym (ap incoming_value c.in-Exports.is))
    (lists_apart c.args.exports.now c.in-Exports.others c.args.moment c.in-Exports.other
    (sym c.eq.ensures ∙ c.if-eq.false)))
