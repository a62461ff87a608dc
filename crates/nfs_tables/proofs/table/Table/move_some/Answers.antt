use Rattle.std.proofs.Common.{arith, ◌∙◌, ap}
use Rattle.nfs_tables.specs.Tables.{value_at}
use Rattle.nfs_tables.proofs.table.Table.move_some.Goals as goal

pub loop-moved-preserved : goal.loop-moved-preserved
loop-moved-preserved g c = record {
  keeps = λ q. c.move_one.ensures.keeps q ∙ c.loop-moved.invariant.keeps q;
  room = omega arith;
  waiting = omega arith;
}

pub returns-clause-keeps : goal.returns-clause-keeps
returns-clause-keeps g c q =
    ap (λ t. value_at g.K.PartialEq.eq t q) c.let_go.ensures ∙ c.loop-moved.invariant.keeps q
