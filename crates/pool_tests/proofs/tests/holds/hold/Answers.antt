use Rattle.std.proofs.Common.{◌∙◌, ap, arith}
use Rattle.nfs_objects.specs.Values.{ViewValue, seen_at}
use Rattle.nfs_engine.specs.Calls.{TxnValue}
use Rattle.pool_tests.proofs.tests.holds.hold.Goals as goal

pub acquire-got-requires : goal.acquire-got-requires
acquire-got-requires g c = (
  omega arith,
  ap (λ (t : TxnValue). seen_at t.view.entries c.args.address) c.new-noted.ensures
      ∙ ap (λ (v : ViewValue). seen_at v.entries c.args.address) c.in_ok-txn.ensures,
)
