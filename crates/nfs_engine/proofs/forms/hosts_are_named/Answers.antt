use Rattle.std.proofs.Common.{List, arith, refl, subst, ℕ}
use Rattle.std.proofs.lemmas.List.{take_all}
use Rattle.std.proofs.lemmas.List.Elements.{All-more}
use Rattle.std.specs.List.{All}
use Rattle.side_wire.specs.Mount.{IsHostName}
use Rattle.nfs_engine.proofs.forms.hosts_are_named.Goals as goal

pub loop-host-preserved : goal.loop-host-preserved
loop-host-preserved c = All-more IsHostName c.args.hosts.now c.loop-host.host-index c.host-item.result
    (omega arith) c.loop-host.invariant (subst IsHostName c.host-item.is (c.if-not-is_host_name.ensures.0 refl))

pub returns : goal.returns
returns c = λ yes. subst (λ (es : List (List ℕ)). All IsHostName es)
    (take_all c.loop-host.host-index c.args.hosts.now (omega arith)) c.loop-host.invariant
