-- Each failure is asked.
use Rattle.std.proofs.Common.{rules, tests}
use Rattle.std.proofs.lemmas.Iterator.{YieldsList-from_slice, cases_from_any}
use Rattle.nfs_server.specs.PassedOver.{Stops}
use Rattle.nfs_server.proofs.network.failures.Failures.has.Goals as goal

pub returns : goal.returns
returns c =
    cases_from_any _ _ c.any.result (Stops c.args.address c.args.now)
    (λ failure. Stops c.args.address c.args.now failure → ⊥) c.any.ensures.ran
    (YieldsList-from_slice c.args.self.now.list.items cc) (λ x q k. search (rules, tests))
    (λ x q k. search (rules, tests))
