-- It is not before what the machine tells, nor before the last one.
use Rattle.std.proofs.Common.{arith}
use Rattle.nfs_server.proofs.clock.MachineClock.goes_on.Goals as goal

pub returns-clause-moment : goal.returns-clause-moment
returns-clause-moment g c = record {
  told = c.moment_after-told.result;
  is_told = c.moment_after-told.ensures;
  behind_told = omega (arith, c.later-moment.ensures.own, c.reached-self.ensures);
  behind_last =
      let last = c.later-moment.ensures.other c.args.self.now.last c.word_of.ensures in
      omega (arith, last, c.reached-self.ensures);
}
