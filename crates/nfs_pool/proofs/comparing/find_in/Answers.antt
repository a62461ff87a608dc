use Rattle.std.proofs.Common.{◌+◌, arith, map, refl}
use Rattle.std.proofs.lemmas.Bool.{false≢true}
use Rattle.std.proofs.lemmas.List.{length-map}
use Rattle.nfs_engine.specs.Arrivals.{shared_value}
use Rattle.nfs_pool.specs.Eras.{IsToldAt, told}
use Rattle.nfs_pool.proofs.ReceiptNumberLemmas.{one_more}
use Rattle.nfs_pool.proofs.TakenReceiptsLemmas.{none_placed}
use Rattle.nfs_pool.proofs.comparing.find_in.Goals as goal

pub loop-at-preserved : goal.loop-at-preserved
loop-at-preserved c =
    one_more (λ k. IsToldAt (map told c.args.list.now) k (c.args.before + c.args.place + 1)
    (shared_value c.args.executed.now) → ⊥)
    c.loop-at.at c.loop-at.invariant (λ is. false≢true (c.if-is_told_at.ensures.1 is))

pub returns-clause-none : goal.returns-clause-none
returns-clause-none c =
    none_placed (c.args.before + c.args.place + 1) (shared_value c.args.executed.now) (map told c.args.list.now)
    (λ k h. c.loop-at.invariant k (omega (arith, h, length-map c.args.list.now told, c.loop-at-test.false)))

pub returns-then-is_told_at-clause-found : goal.returns-then-is_told_at-clause-found
returns-then-is_told_at-clause-found c = c.if-is_told_at.ensures.0 refl
