use Rattle.std.proofs.Common.{◌+◌, map, refl, subst}
use Rattle.std.specs.Bool.{Decides}
use Rattle.nfs_engine.specs.Arrivals.{record_value, shared_value}
use Rattle.nfs_engine.specs.declared.arrival.Executed.{Executed}
use Rattle.nfs_pool.specs.Eras.{IsToldAt, told_value}
use Rattle.nfs_pool.proofs.ReceiptNumberLemmas.{at_map, past_map, stands_if, stands_past}
use Rattle.nfs_pool.proofs.comparing.stands_at.Goals as goal

pub returns-in-Some : goal.returns-in-Some
returns-in-Some c = stands_if c.args.before (map shared_value c.args.records.now) (map told_value c.args.tells.now)
    c.args.place (shared_value c.in-Some.executed.now) c.tells_at.result
    (at_map shared_value c.args.records.now c.args.place c.in-Some.executed.now (map shared_value c.args.records.now)
    refl c.in-Some.ensures.lookup.3.0 c.in-Some.ensures.lookup.1)
    (subst (λ (x : Executed). Decides c.tells_at.result (IsToldAt (map told_value c.args.tells.now) c.args.place
    (c.args.before + c.args.place + 1) (record_value x))) c.deref.ensures c.tells_at.ensures)

pub returns-in-None : goal.returns-in-None
returns-in-None c = (
  λ _. stands_past c.args.before (map shared_value c.args.records.now) (map told_value c.args.tells.now) c.args.place
      (past_map shared_value c.args.records.now c.args.place (map shared_value c.args.records.now) refl
      c.in-None.ensures.lookup.3),
  λ _. refl,
)
