use Rattle.std.proofs.Common.{rules}
use Rattle.nfs_schedule.proofs.model.driving.replace.Goals as goal

pub returns-clause-ok : goal.returns-clause-ok
returns-clause-ok c = record {
  arrival = c.in_ok-came.came;
  received = search rules;
  reading = c.show_read.ensures;
  rest = c.in_ok-arrive.ensures.ok;
}
